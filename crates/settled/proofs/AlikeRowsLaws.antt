-- Rows of set-ups and flows that agree on what counts give the same stores, and flows that agree again.
use Rattle.word.proofs.Base.{◌≡◌, refl, sym, ap, ap₂, subst, ◌∙◌, ℕ, zero, suc, ◌+◌, Bool, eqb, List, [], ◌∷◌, ◌++◌}
use Rattle.word.specs.declared.types.Direction.{Direction}
use Rattle.word.specs.declared.types.Pointer.{Pointer}
use Rattle.word.specs.declared.types.Filled.{Filled}
use Rattle.word.specs.Repeat.{repeated}
use Rattle.word.specs.Types.{Uses}
use Rattle.area.specs.declared.types.Setup.{Setup}
use Rattle.area.specs.declared.types.Flow.{Flow}
use Rattle.area.specs.declared.types.Finished.{Finished}
use Rattle.area.specs.Flow.{State, state, nothing}
use Rattle.area.specs.With.{with_carry, with_stores}
use Rattle.area.specs.Finish.{finish}
use Rattle.area.specs.Store.{wait, count_with, store_pending}
use Rattle.area.specs.Move.{stepped, move_on, turned, row_end}
use Rattle.area.specs.Rows.{finished_word, stored_before, one_word, words, row_start, one_row}
use Rattle.stores.specs.Stores.{Store, store, row_stores, blit_stores}
use Rattle.stores.proofs.OnlyDLaws.{OnlyD, finished_word-without-memory, one_word-of-empty, one_row-of-empty}
use Rattle.settled.proofs.AlikeLaws.{AlikeSetup, AlikeFlow, final-alike, finish-alike}

-- the flow after a word of a blit that uses D alone
one_word-flow-is : (setup : Setup) → OnlyD setup.uses → (width remaining : ℕ) (flow : Flow)
    → (one_word setup width remaining (state [] flow)).flow
    ≡ move_on setup.direction setup.uses
    (wait setup.uses.d (finish setup (eqb (remaining + 1) width) (eqb remaining 0) flow).word
    (with_stores (count_with flow.pending flow.stored) nothing (finish setup (eqb (remaining + 1) width) (eqb remaining 0) flow).flow))
unfolding one_word stored_before store_pending finish
one_word-flow-is setup only width remaining flow =
    ap (λ (made : Finished).
    move_on setup.direction setup.uses
    (wait setup.uses.d made.word (with_stores (count_with made.flow.pending made.flow.stored) nothing made.flow)))
    (finished_word-without-memory setup only width remaining [] flow)

stepped-alike : (direction direction' : Direction) (used used' : Bool) (at at' : Pointer)
    → direction ≡ direction' → used ≡ used' → at ≡ at' → stepped direction used at ≡ stepped direction' used' at'
stepped-alike direction direction' used used' at at' way uses same = rw (way, uses, same)

turned-alike : (direction direction' : Direction) (used used' : Bool) (modulo modulo' : ℕ) (at at' : Pointer)
    → direction ≡ direction' → used ≡ used' → modulo ≡ modulo' → at ≡ at'
    → turned direction used modulo at ≡ turned direction' used' modulo' at'
turned-alike direction direction' used used' modulo modulo' at at' way uses by same = rw (way, uses, by, same)

-- alike from two states is alike from two that equal them
both_ends : (f : ℕ) (go went : State → State) {from start to stop : State} → from ≡ start → to ≡ stop
    → AlikeFlow f (go start).flow (went stop).flow → AlikeFlow f (go from).flow (went to).flow
both_ends f go went {from} {start} {to} {stop} begins ends alike =
    subst (λ (here : State). AlikeFlow f (go here).flow (went to).flow) (sym begins)
    (subst (λ (there : State). AlikeFlow f (go start).flow (went there).flow) (sym ends) alike)

module _ (this other : Setup) (setups : AlikeSetup this other) (only : OnlyD this.uses) (only' : OnlyD other.uses) (width : ℕ) where
  uses-d : this.uses.d ≡ other.uses.d
  uses-d = ap (λ (uses : Uses). uses.d) setups.uses

  -- a word
  word-alike : (remaining : ℕ) (flow flow' : Flow) → AlikeFlow this.function flow flow'
      → (finished_word this width remaining (state [] flow)).word ≡ (finished_word other width remaining (state [] flow')).word
  unfolding finish
  word-alike remaining flow flow' flows =
      ap (λ (made : Finished). made.word) (finished_word-without-memory this only width remaining [] flow)
      ∙ ap (λ (made : Filled). made.word) (final-alike this other setups (eqb (remaining + 1) width) (eqb remaining 0) flow flow' flows)
      ∙ sym (ap (λ (made : Finished). made.word) (finished_word-without-memory other only' width remaining [] flow'))

  one_word-alike : (remaining : ℕ) (flow flow' : Flow) → AlikeFlow this.function flow flow'
      → AlikeFlow this.function (one_word this width remaining (state [] flow)).flow (one_word other width remaining (state [] flow')).flow
  unfolding move_on wait
  one_word-alike remaining flow flow' flows =
      let done = finish-alike this other setups (eqb (remaining + 1) width) (eqb remaining 0) flow flow' flows in
      rw (one_word-flow-is this only width remaining flow, one_word-flow-is other only' width remaining flow')
      (record {
        d = stepped-alike this.direction other.direction this.uses.d other.uses.d _ _ setups.direction uses-d done.d;
        carry = done.carry;
        a = done.a;
        earlier-a = done.earlier-a;
        b = done.b;
        earlier-b = done.earlier-b;
        c = done.c;
      })

  -- the stores of a row, and the flow after it
  row_stores-alike : (remaining : ℕ) (flow flow' : Flow) → AlikeFlow this.function flow flow'
      → row_stores this width remaining (state [] flow) ≡ row_stores other width remaining (state [] flow')
  unfolding row_stores
  row_stores-alike zero flow flow' flows = refl
  row_stores-alike (suc remaining) flow flow' flows =
      ap₂ (λ (one : Store) (rest : List Store). one ∷ rest)
      (ap₂ store flows.d (word-alike remaining flow flow' flows))
      (ap (row_stores this width remaining) (one_word-of-empty this only width remaining [] flow)
      ∙ row_stores-alike remaining (one_word this width remaining (state [] flow)).flow (one_word other width remaining (state [] flow')).flow (one_word-alike remaining flow flow' flows)
      ∙ sym (ap (row_stores other width remaining) (one_word-of-empty other only' width remaining [] flow')))

  words-alike : (remaining : ℕ) (flow flow' : Flow) → AlikeFlow this.function flow flow'
      → AlikeFlow this.function (words this width remaining (state [] flow)).flow (words other width remaining (state [] flow')).flow
  unfolding repeated
  words-alike zero flow flow' flows = flows
  words-alike (suc remaining) flow flow' flows =
      both_ends this.function (words this width remaining) (words other width remaining) (one_word-of-empty this only width remaining [] flow) (one_word-of-empty other only' width remaining [] flow')
      (words-alike remaining (one_word this width remaining (state [] flow)).flow (one_word other width remaining (state [] flow')).flow (one_word-alike remaining flow flow' flows))

  started-alike : (flow flow' : Flow) → AlikeFlow this.function flow flow'
      → AlikeFlow this.function (with_carry this.carry flow) (with_carry other.carry flow')
  started-alike flow flow' flows =
      record {
        d = flows.d;
        carry = setups.carry;
        a = flows.a;
        earlier-a = flows.earlier-a;
        b = flows.b;
        earlier-b = flows.earlier-b;
        c = flows.c;
      }

  one_row-alike : (flow flow' : Flow) → AlikeFlow this.function flow flow'
      → AlikeFlow this.function (one_row this width (state [] flow)).flow (one_row other width (state [] flow')).flow
  unfolding one_row row_start row_end
  one_row-alike flow flow' flows =
      let done = words-alike width (with_carry this.carry flow) (with_carry other.carry flow') (started-alike flow flow' flows) in
      record {
        d = turned-alike this.direction other.direction this.uses.d other.uses.d this.modulos.d other.modulos.d _ _ setups.direction uses-d setups.modulo done.d;
        carry = done.carry;
        a = done.a;
        earlier-a = done.earlier-a;
        b = done.b;
        earlier-b = done.earlier-b;
        c = done.c;
      }

  -- the stores of all rows
  pub blit_stores-alike : (remaining : ℕ) (flow flow' : Flow) → AlikeFlow this.function flow flow'
      → blit_stores this width remaining (state [] flow) ≡ blit_stores other width remaining (state [] flow')
  unfolding blit_stores row_start
  blit_stores-alike zero flow flow' flows = refl
  blit_stores-alike (suc remaining) flow flow' flows =
      ap₂ (λ (these rest : List Store). these ++ rest)
      (row_stores-alike width (with_carry this.carry flow) (with_carry other.carry flow') (started-alike flow flow' flows))
      (ap (blit_stores this width remaining) (one_row-of-empty this only width [] flow)
      ∙ blit_stores-alike remaining (one_row this width (state [] flow)).flow (one_row other width (state [] flow')).flow (one_row-alike flow flow' flows)
      ∙ sym (ap (blit_stores other width remaining) (one_row-of-empty other only' width [] flow')))
