-- Laws of the steps of a job without faults: each is decoded from its own words, wherever they stand.
use Rattle.std.specs.Prelude.{Option, if◌then◌else◌, Some, None, Ok, Err}
use Rattle.word.proofs.Base.{◌≡◌, refl, sym, ap, ◌∙◌, ℕ, zero, suc, ◌+◌, ◌≤◌, one-add, arith, Bool, true, false, List}
use Rattle.word.proofs.Base.{[], ◌∷◌, length, take, drop, length-take-le}
use native.Mathlib.Nat.{le_refl}
use lib.Seq.{drop-drop}
use Rattle.word.specs.Pointer.{pointer}
use Rattle.job.specs.declared.types.Kind.{Kind}
use Rattle.job.specs.declared.types.Step.{Step}
use Rattle.job.specs.declared.types.Refusal.{Refusal}
use Rattle.job.specs.Types.{Read}
use Rattle.job.specs.Kind.{kind}
use Rattle.job.specs.Step.{operands, found, is_odd, begun, front, read_number}
use Rattle.job.specs.Steps.{Placed, placed, steps_from}
use Rattle.job.proofs.StepsLaws.{behind-either, read_number-of-refused}
use Rattle.job.proofs.StepLaws.{front-le}
use Rattle.runner.proofs.FrontLaws.{front-of-take, front-is-some}
use Rattle.folder.specs.Fold.{raw_words}
use Rattle.demands.proofs.FoldedJobLaws.{Clean}

-- a step with the place of the next, where its first word is word `to`
abbrev refound : (to : ℕ) → Read → Read
refound to (Ok (Some (step, next))) = found to step
refound to (Ok None) = Ok None
refound to (Err why) = Err why

-- a step that some words begin is begun by them wherever they stand
begun-elsewhere : (begins : Option Kind) (at to : ℕ) (rest : List ℕ) (step : Step) (next : ℕ)
    → begun begins at rest ≡ Ok (Some (step, next)) → begun begins to rest ≡ found to step
unfolding begun found operands
begun-elsewhere None at to rest step next reads = let n : ◌≡◌ {A = ℕ} 0 1 = cc in absurd (omega arith)
begun-elsewhere (Some (Kind.Register place)) at to [] step next reads = let n : ◌≡◌ {A = ℕ} 0 1 = cc in absurd (omega arith)
begun-elsewhere (Some (Kind.Register place)) at to (value ∷ rest) step next reads =
    ap (refound to) reads
begun-elsewhere (Some Kind.Size) at to [] step next reads = let n : ◌≡◌ {A = ℕ} 0 1 = cc in absurd (omega arith)
begun-elsewhere (Some Kind.Size) at to (value ∷ rest) step next reads =
    ap (refound to) reads
begun-elsewhere (Some (Kind.Store high)) at to [] step next reads = let n : ◌≡◌ {A = ℕ} 0 1 = cc in absurd (omega arith)
begun-elsewhere (Some (Kind.Store high)) at to (low ∷ []) step next reads = let n : ◌≡◌ {A = ℕ} 0 1 = cc in absurd (omega arith)
begun-elsewhere (Some (Kind.Store high)) at to (low ∷ value ∷ rest) step next reads = by-test (is_odd low) reads
  where
    by-test : (odd : Bool)
        → (if odd then Err Refusal.OddStore else found at (Step.Store (pointer high low).word value)) ≡ Ok (Some (step, next))
        → (if odd then Err Refusal.OddStore else found to (Step.Store (pointer high low).word value)) ≡ found to step
    by-test true wrong = let n : ◌≡◌ {A = ℕ} 0 1 = cc in absurd (omega arith)
    by-test false is = ap (refound to) is
begun-elsewhere (Some (Kind.Flag flag)) at to rest step next reads =
    ap (refound to) reads

pub front-elsewhere : (at to first : ℕ) (rest : List ℕ) (step : Step) (next : ℕ)
    → front at (first ∷ rest) ≡ Ok (Some (step, next)) → front to (first ∷ rest) ≡ found to step
unfolding front
front-elsewhere at to first rest step next reads = begun-elsewhere (kind first) at to rest step next reads

-- a step that its own words decode to
pub record GoodStep (job : List ℕ) (one : Placed) : Type 0 where
  pub step : Step
  pub next : ℕ
  pub reads : one.read ≡ Ok (Some (step, next))
  pub long : length (raw_words job one.place step) ≡ 1 + operands step
  pub decodes : (at : ℕ) → front at (raw_words job one.place step) ≡ found at step

unfoldable pub Good : (job : List ℕ) → List Placed → Type 0
Good job [] = Unit
Good job (one ∷ rest) = GoodStep job one × Good job rest

-- one word on
drop-next : (job : List ℕ) (at first : ℕ) (rest : List ℕ) → drop at job ≡ first ∷ rest → drop (at + 1) job ≡ rest
drop-next job at first rest here = sym (drop-drop 1 at job) ∙ ap (drop 1) here

-- what stands at the front of a run of words, when no number is told for it
good-front : (job : List ℕ) (at first : ℕ) (rest : List ℕ) (read : Read) → drop at job ≡ first ∷ rest → front at (first ∷ rest) ≡ read
    → read_number read ≡ 0 → GoodStep job (placed at read)
good-front job at first rest (Ok (Some (step, next))) here reads none =
    let raw : raw_words job at step ≡ first ∷ take (operands step) rest =
    ap (take (1 + operands step)) here ∙ ap (λ (n : ℕ). take n (first ∷ rest)) (one-add (operands step)) in
    let short : 1 + operands step ≤ length (drop at job) = rw here (front-le at (first ∷ rest) step next reads) in
    record {
      step = step;
      next = next;
      reads = refl;
      long = length-take-le (1 + operands step) (drop at job) short;
      decodes = λ to.
          ap (front to) raw
          ∙ front-elsewhere at to first (take (operands step) rest) step next (front-of-take at (operands step) first rest step next reads (le_refl (operands step)));
    }
good-front job at first rest (Ok None) here reads none = absurd (front-is-some at first rest reads)
good-front job at first rest (Err why) here reads none = absurd (omega (arith, none, read_number-of-refused why))

pub steps-are-good : (job : List ℕ) (skip at : ℕ) (words : List ℕ) → drop at job ≡ words → Clean (steps_from skip at words)
    → Good job (steps_from skip at words)
unfolding steps_from Clean Good
steps-are-good job skip at [] here clean = tt
steps-are-good job zero at (first ∷ rest) here clean = (
  good-front job at first rest (front at (first ∷ rest)) here refl clean.0,
  behind-either (λ list. Clean list → Good job list) (front at (first ∷ rest)) (λ skip. steps_from skip (at + 1) rest)
      (λ skip. steps-are-good job skip (at + 1) rest (drop-next job at first rest here)) (λ none. tt) clean.1,
)
steps-are-good job (suc skip) at (word ∷ rest) here clean = steps-are-good job skip (at + 1) rest (drop-next job at word rest here) clean
