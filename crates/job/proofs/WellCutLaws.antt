-- Laws of a run of words that ends where a step ends: the list of its steps, and the steps of what follows it, stand one after the other.
use Rattle.std.specs.Prelude.{if◌then◌else◌, Option, Some, None, Ok, Err}
use Rattle.word.proofs.Base.{◌≡◌, refl, ap, ◌∙◌, ℕ, zero, suc, ◌+◌, ◌≤◌, add-zero, arith, Bool, true, false, ◌&&◌, List}
use Rattle.word.proofs.Base.{[], ◌∷◌, ◌++◌, length}
use Rattle.word.specs.Pointer.{pointer}
use Rattle.job.specs.declared.types.Kind.{Kind}
use Rattle.job.specs.declared.types.Step.{Step}
use Rattle.job.specs.declared.types.Refusal.{Refusal}
use Rattle.job.specs.Types.{Read}
use Rattle.job.specs.Kind.{kind}
use Rattle.job.specs.Step.{operands, found, is_odd, begun, front}
use Rattle.job.specs.Steps.{Placed, placed, behind, steps_from, steps}
use Rattle.job.proofs.StepLaws.{front-le, front-of-append}

unfoldable pub is_step : Read → Bool
is_step (Ok (Some (step, next))) = true
is_step (Ok None) = false
is_step (Err why) = false

-- the words that belong to what stands at a place, after its first
unfoldable pub following : Read → ℕ
following (Ok (Some (step, next))) = operands step
following (Ok None) = 0
following (Err why) = 0

-- every one of a list is a step
unfoldable pub faultless : List Placed → Bool
faultless [] = true
faultless (one ∷ rest) = is_step one.read && faultless rest

-- a run of words that is whole steps
unfoldable pub well_cut : (words : List ℕ) → Bool
well_cut words = faultless (steps words)

-- where a run stands in the job decides neither whether a step is at its front nor how long it is
Alike : (this other : Read) → Type 0
Alike this other = (is_step this ≡ is_step other) × (following this ≡ following other)

begun-anywhere : (begins : Option Kind) (at to : ℕ) (rest : List ℕ) → Alike (begun begins at rest) (begun begins to rest)
unfolding Alike begun found is_step following
begun-anywhere None at to rest = (refl, refl)
begun-anywhere (Some (Kind.Register place)) at to [] = (refl, refl)
begun-anywhere (Some (Kind.Register place)) at to (value ∷ rest) = (refl, refl)
begun-anywhere (Some Kind.Size) at to [] = (refl, refl)
begun-anywhere (Some Kind.Size) at to (value ∷ rest) = (refl, refl)
begun-anywhere (Some (Kind.Store high)) at to [] = (refl, refl)
begun-anywhere (Some (Kind.Store high)) at to (low ∷ []) = (refl, refl)
begun-anywhere (Some (Kind.Store high)) at to (low ∷ value ∷ rest) = by-test (is_odd low)
  where
    by-test : (odd : Bool)
        → Alike (if odd then Err Refusal.OddStore else found at (Step.Store (pointer high low).word value))
        (if odd then Err Refusal.OddStore else found to (Step.Store (pointer high low).word value))
    by-test true = (refl, refl)
    by-test false = (refl, refl)
begun-anywhere (Some (Kind.Flag flag)) at to rest = (refl, refl)

front-anywhere : (at to : ℕ) (words : List ℕ) → Alike (front at words) (front to words)
unfolding Alike front
front-anywhere at to [] = (refl, refl)
front-anywhere at to (first ∷ rest) = begun-anywhere (kind first) at to rest

-- what comes behind a step goes by the words that belong to it
behind-alike : (this other : Read) → Alike this other → (later also : ℕ → List Placed)
    → ((skip : ℕ) → faultless (later skip) ≡ faultless (also skip))
    → (is_step this && faultless (behind this later)) ≡ (is_step other && faultless (behind other also))
unfolding Alike is_step following behind
behind-alike (Ok (Some (step, next))) (Ok (Some (stride, past))) alike later also each =
    each (operands step) ∙ ap (λ (skip : ℕ). faultless (also skip)) alike.1
behind-alike (Ok (Some (step, next))) (Ok None) alike later also each = let n : ◌≡◌ {A = ℕ} 0 1 = cc in absurd (omega arith)
behind-alike (Ok (Some (step, next))) (Err why) alike later also each = let n : ◌≡◌ {A = ℕ} 0 1 = cc in absurd (omega arith)
behind-alike (Ok None) (Ok (Some (stride, past))) alike later also each = let n : ◌≡◌ {A = ℕ} 0 1 = cc in absurd (omega arith)
behind-alike (Ok None) (Ok None) alike later also each = refl
behind-alike (Ok None) (Err why) alike later also each = refl
behind-alike (Err why) (Ok (Some (stride, past))) alike later also each = let n : ◌≡◌ {A = ℕ} 0 1 = cc in absurd (omega arith)
behind-alike (Err why) (Ok None) alike later also each = refl
behind-alike (Err why) (Err reason) alike later also each = refl

pub faultless-anywhere : (skip at to : ℕ) (words : List ℕ) → faultless (steps_from skip at words) ≡ faultless (steps_from skip to words)
unfolding faultless steps_from
faultless-anywhere skip at to [] = refl
faultless-anywhere zero at to (first ∷ rest) =
    behind-alike (front at (first ∷ rest)) (front to (first ∷ rest)) (front-anywhere at to (first ∷ rest))
    (λ skip. steps_from skip (at + 1) rest) (λ skip. steps_from skip (to + 1) rest)
    (λ skip. faultless-anywhere skip (at + 1) (to + 1) rest)
faultless-anywhere (suc skip) at to (word ∷ rest) = faultless-anywhere skip (at + 1) (to + 1) rest

-- a run, and what comes after it, from within the run's first step
steps_from-of-append : (skip at : ℕ) (words more : List ℕ) → skip ≤ length words → faultless (steps_from skip at words) ≡ true
    → steps_from skip at (words ++ more) ≡ steps_from skip at words ++ steps_from 0 (at + length words) more
unfolding steps_from faultless is_step behind
steps_from-of-append zero at [] more inside whole = rw add-zero
steps_from-of-append (suc skip) at [] more inside whole = absurd (omega arith)
steps_from-of-append zero at (first ∷ rest) more inside whole =
    by_read (front at (first ∷ rest)) refl whole (λ skip. steps_from-of-append skip (at + 1) rest more)
  where
    by_read : (read : Read) → front at (first ∷ rest) ≡ read
        → (is_step read && faultless (behind read (λ skip. steps_from skip (at + 1) rest))) ≡ true
        → ((skip : ℕ) → skip ≤ length rest → faultless (steps_from skip (at + 1) rest) ≡ true
        → steps_from skip (at + 1) (rest ++ more) ≡ steps_from skip (at + 1) rest ++ steps_from 0 (at + 1 + length rest) more)
        → steps_from 0 at (first ∷ rest ++ more)
        ≡ placed at read ∷ (behind read (λ skip. steps_from skip (at + 1) rest) ++ steps_from 0 (at + suc (length rest)) more)
    by_read (Ok (Some (step, next))) reads whole later =
        let fits = front-le at (first ∷ rest) step next reads in
        let same : at + 1 + length rest ≡ at + suc (length rest) = omega arith in
        ap (λ (read : Read). placed at read ∷ behind read (λ skip. steps_from skip (at + 1) (rest ++ more))) (front-of-append at (first ∷ rest) more step next reads)
        ∙ ap (λ (others : List Placed). placed at (Ok (Some (step, next))) ∷ others)
        (later (operands step) (omega arith) whole ∙ ap (λ (place : ℕ). steps_from (operands step) (at + 1) rest ++ steps_from 0 place more) same)
    by_read (Ok None) reads whole later = let n : ◌≡◌ {A = ℕ} 0 1 = cc in absurd (omega arith)
    by_read (Err why) reads whole later = let n : ◌≡◌ {A = ℕ} 0 1 = cc in absurd (omega arith)
steps_from-of-append (suc skip) at (word ∷ rest) more inside whole =
    let same : at + 1 + length rest ≡ at + suc (length rest) = omega arith in
    steps_from-of-append skip (at + 1) rest more (omega arith) whole
    ∙ ap (λ (place : ℕ). steps_from skip (at + 1) rest ++ steps_from 0 place more) same

-- a job falls apart where a step ends
pub steps-of-append : (at : ℕ) (first rest : List ℕ) → well_cut first ≡ true
    → steps_from 0 at (first ++ rest) ≡ steps_from 0 at first ++ steps_from 0 (at + length first) rest
unfolding well_cut
steps-of-append at first rest whole = steps_from-of-append 0 at first rest (omega arith) (faultless-anywhere 0 at 0 first ∙ whole)
