-- Set-ups and flows that agree on what counts finish the same word: a source that doesn't count may hold anything.
use Rattle.word.proofs.Base.{◌≡◌, refl, ap, ap₂, ◌∙◌, ℕ, Bool, true, false}
use Rattle.word.specs.declared.types.Direction.{Direction}
use Rattle.word.specs.declared.types.Fill.{Fill}
use Rattle.word.specs.declared.types.Filled.{Filled}
use Rattle.word.specs.Mask.{masked}
use Rattle.word.specs.Shift.{shifted}
use Rattle.word.specs.Logic.{logic}
use Rattle.word.specs.Fill.{filled}
use Rattle.area.specs.declared.types.Masks.{Masks}
use Rattle.area.specs.Types.{Shifts}
use Rattle.area.specs.declared.types.Setup.{Setup}
use Rattle.area.specs.declared.types.Flow.{Flow}
use Rattle.area.specs.Finish.{masked_a, result_word, final, finish}
use Rattle.depends.specs.Depends.{counts}
use Rattle.depends.proofs.DependsLaws.{logic-without-a, logic-without-b, logic-without-c}

-- a logic function's answer goes by the sources that count
pub logic-alike : (f a a' b b' c c' : ℕ)
    → (counts f 4 ≡ true → a ≡ a') → (counts f 2 ≡ true → b ≡ b') → (counts f 1 ≡ true → c ≡ c')
    → logic f a b c ≡ logic f a' b' c'
logic-alike f a a' b b' c c' same-a same-b same-c = by-a (counts f 4) refl ∙ by-b (counts f 2) refl ∙ by-c (counts f 1) refl
  where
    by-a : (count : Bool) → counts f 4 ≡ count → logic f a b c ≡ logic f a' b c
    by-a true counted = ap (λ (x : ℕ). logic f x b c) (same-a counted)
    by-a false free = logic-without-a f a a' b c free

    by-b : (count : Bool) → counts f 2 ≡ count → logic f a' b c ≡ logic f a' b' c
    by-b true counted = ap (λ (x : ℕ). logic f a' x c) (same-b counted)
    by-b false free = logic-without-b f a' b b' c free

    by-c : (count : Bool) → counts f 1 ≡ count → logic f a' b' c ≡ logic f a' b' c'
    by-c true counted = ap (logic f a' b') (same-c counted)
    by-c false free = logic-without-c f a' b' c c' free

-- two set-ups, and two flows, that agree on what counts
pub record AlikeSetup (this other : Setup) : Type 0 where
  pub uses : this.uses ≡ other.uses
  pub direction : this.direction ≡ other.direction
  pub function : this.function ≡ other.function
  pub shifts : this.shifts ≡ other.shifts
  pub fill : this.fill ≡ other.fill
  pub carry : this.carry ≡ other.carry
  pub modulo : this.modulos.d ≡ other.modulos.d
  pub masks : counts this.function 4 ≡ true → this.masks ≡ other.masks

pub record AlikeFlow (f : ℕ) (this other : Flow) : Type 0 where
  pub d : this.pointers.d ≡ other.pointers.d
  pub carry : this.carry ≡ other.carry
  pub a : counts f 4 ≡ true → this.sources.a ≡ other.sources.a
  pub earlier-a : counts f 4 ≡ true → this.earlier.a ≡ other.earlier.a
  pub b : counts f 2 ≡ true → this.sources.b ≡ other.sources.b
  pub earlier-b : counts f 2 ≡ true → this.earlier.b ≡ other.earlier.b
  pub c : counts f 1 ≡ true → this.sources.c ≡ other.sources.c

-- the parts of a word, over plain values
masked-alike : (first last : Bool) (masks masks' : Masks) (word word' : ℕ) → masks ≡ masks' → word ≡ word'
    → masked first last masks.first masks.last word ≡ masked first last masks'.first masks'.last word'
masked-alike first last masks masks' word word' same this = ap₂ (λ (m : Masks) (w : ℕ). masked first last m.first m.last w) same this

shifted-alike : (direction direction' : Direction) (n n' earlier earlier' this this' : ℕ)
    → direction ≡ direction' → n ≡ n' → earlier ≡ earlier' → this ≡ this'
    → shifted direction n earlier this ≡ shifted direction' n' earlier' this'
shifted-alike direction direction' n n' earlier earlier' this this' way by before same = rw (way, by, before, same)

filled-alike : (fill fill' : Fill) (carry carry' word word' : ℕ) → fill ≡ fill' → carry ≡ carry' → word ≡ word'
    → filled fill carry word ≡ filled fill' carry' word'
filled-alike fill fill' carry carry' word word' kind start same = rw (kind, start, same)

module _ (this other : Setup) (setups : AlikeSetup this other) where
  masked_a-alike : (first last : Bool) (flow flow' : Flow) → AlikeFlow this.function flow flow'
      → counts this.function 4 ≡ true → masked_a this first last flow ≡ masked_a other first last flow'
  unfolding masked_a
  masked_a-alike first last flow flow' flows counted =
      masked-alike first last this.masks other.masks flow.sources.a flow'.sources.a (setups.masks counted) (flows.a counted)

  result-alike : (masked masked' : ℕ) (flow flow' : Flow) → AlikeFlow this.function flow flow'
      → (counts this.function 4 ≡ true → masked ≡ masked') → result_word this masked flow ≡ result_word other masked' flow'
  unfolding result_word
  result-alike masked masked' flow flow' flows same =
      logic-alike this.function _ _ _ _ flow.sources.c flow'.sources.c
      (λ counted. shifted-alike this.direction other.direction this.shifts.a other.shifts.a flow.earlier.a flow'.earlier.a masked masked'
      setups.direction (ap (λ (by : Shifts). by.a) setups.shifts) (flows.earlier-a counted) (same counted))
      (λ counted. shifted-alike this.direction other.direction this.shifts.b other.shifts.b flow.earlier.b flow'.earlier.b flow.sources.b flow'.sources.b
      setups.direction (ap (λ (by : Shifts). by.b) setups.shifts) (flows.earlier-b counted) (flows.b counted))
      flows.c
      ∙ ap (λ (f : ℕ). logic f (shifted other.direction other.shifts.a flow'.earlier.a masked') (shifted other.direction other.shifts.b flow'.earlier.b flow'.sources.b) flow'.sources.c)
      setups.function

  pub final-alike : (first last : Bool) (flow flow' : Flow) → AlikeFlow this.function flow flow'
      → final this first last flow ≡ final other first last flow'
  unfolding final
  final-alike first last flow flow' flows =
      filled-alike this.fill other.fill flow.carry flow'.carry _ _ setups.fill flows.carry
      (result-alike (masked_a this first last flow) (masked_a other first last flow') flow flow' flows (masked_a-alike first last flow flow' flows))

  pub finish-alike : (first last : Bool) (flow flow' : Flow) → AlikeFlow this.function flow flow'
      → AlikeFlow this.function (finish this first last flow).flow (finish other first last flow').flow
  unfolding finish
  finish-alike first last flow flow' flows =
      let same : final this first last flow ≡ final other first last flow' = final-alike first last flow flow' flows in
      record {
        d = flows.d;
        carry = ap (λ (made : Filled). made.carry) same;
        a = flows.a;
        earlier-a = masked_a-alike first last flow flow' flows;
        b = flows.b;
        earlier-b = flows.b;
        c = flows.c;
      }
