-- Laws of the list of a job's steps: how it begins at a place, by what stands there.
use Rattle.std.specs.Prelude.{Some, None, Ok, Err}
use Rattle.word.proofs.Base.{◌≡◌, refl, ap, ◌∙◌, ℕ, zero, suc, ◌+◌, ◌<◌, ◌≤◌, add-zero, arith, List, [], ◌∷◌, length}
use Rattle.word.proofs.Base.{drop, drop_of_length-le}
use lib.Seq.{drop-drop}
use Rattle.word.specs.Choice.{given}
use Rattle.job.specs.declared.types.Step.{Step}
use Rattle.job.specs.declared.types.Refusal.{Refusal}
use Rattle.job.specs.Types.{Read}
use Rattle.job.specs.Step.{operands, front, step_at, read_number}
use Rattle.job.specs.Steps.{Placed, placed, behind, steps_from}
use Rattle.job.proofs.StepLaws.{front-next, step_at-of-end}

-- what holds of the later steps and of none holds of what comes behind
pub behind-either : (Holds : List Placed → Type 0) (read : Read) (later : ℕ → List Placed)
    → ((skip : ℕ) → Holds (later skip)) → Holds [] → Holds (behind read later)
unfolding behind
behind-either Holds (Ok (Some (step, next))) later each none = each (operands step)
behind-either Holds (Ok None) later each none = each 0
behind-either Holds (Err why) later each none = none

-- the words that belong to the step before are passed over
pub steps_from-of-skip : (skip at : ℕ) (words : List ℕ) → steps_from skip at words ≡ steps_from 0 (at + skip) (drop skip words)
unfolding steps_from
steps_from-of-skip zero at words = rw add-zero
steps_from-of-skip (suc skip) at [] = refl
steps_from-of-skip (suc skip) at (word ∷ rest) =
    let same : at + 1 + skip ≡ at + suc skip = omega arith in
    steps_from-of-skip skip (at + 1) rest ∙ ap (λ (place : ℕ). steps_from 0 place (drop skip rest)) same

pub steps-at-end : (job : List ℕ) (at : ℕ) → length job ≤ at → steps_from 0 at (drop at job) ≡ []
unfolding steps_from
steps-at-end job at past = rw (drop_of_length-le job past)

pub steps-of-end : (job : List ℕ) (at : ℕ) → step_at job at ≡ Ok None → steps_from 0 at (drop at job) ≡ []
steps-of-end job at reads = steps-at-end job at (step_at-of-end job at reads)

-- a run that begins with a step
pub steps_from-of-step : (at : ℕ) (words : List ℕ) (step : Step) (next : ℕ) → front at words ≡ Ok (Some (step, next))
    → steps_from 0 at words ≡ placed at (Ok (Some (step, next))) ∷ steps_from 0 next (drop (suc (operands step)) words)
unfolding steps_from behind front
steps_from-of-step at [] step next reads = let n : ◌≡◌ {A = ℕ} 0 1 = cc in absurd (omega arith)
steps_from-of-step at (first ∷ rest) step next reads =
    let past = front-next at (first ∷ rest) step next reads in
    let same : at + 1 + operands step ≡ next = omega arith in
    ap (λ (read : Read). placed at read ∷ behind read (λ skip. steps_from skip (at + 1) rest)) reads
    ∙ ap (λ (later : List Placed). placed at (Ok (Some (step, next))) ∷ later)
    (steps_from-of-skip (operands step) (at + 1) rest ∙ ap (λ (place : ℕ). steps_from 0 place (drop (operands step) rest)) same)

pub steps-of-step : (job : List ℕ) (at : ℕ) (step : Step) (next : ℕ) → step_at job at ≡ Ok (Some (step, next))
    → steps_from 0 at (drop at job) ≡ placed at (Ok (Some (step, next))) ∷ steps_from 0 next (drop next job)
unfolding step_at
steps-of-step job at step next reads =
    let past = front-next at (drop at job) step next reads in
    let same : at + suc (operands step) ≡ next = omega arith in
    steps_from-of-step at (drop at job) step next reads
    ∙ ap (λ (later : List ℕ). placed at (Ok (Some (step, next))) ∷ steps_from 0 next later)
    (drop-drop (suc (operands step)) at job ∙ ap (λ (place : ℕ). drop place job) same)

-- a run that begins with what is refused: it stands alone
steps_from-of-refused : (at : ℕ) (words : List ℕ) (why : Refusal) → front at words ≡ Err why
    → steps_from 0 at words ≡ placed at (Err why) ∷ []
unfolding steps_from behind front
steps_from-of-refused at [] why reads = let n : ◌≡◌ {A = ℕ} 0 1 = cc in absurd (omega arith)
steps_from-of-refused at (first ∷ rest) why reads =
    ap (λ (read : Read). placed at read ∷ behind read (λ skip. steps_from skip (at + 1) rest)) reads

pub steps-of-refused : (job : List ℕ) (at : ℕ) (why : Refusal) → step_at job at ≡ Err why
    → steps_from 0 at (drop at job) ≡ placed at (Err why) ∷ []
unfolding step_at
steps-of-refused job at why reads = steps_from-of-refused at (drop at job) why reads

-- what is refused has a number, which the end hasn't
pub read_number-of-refused : (why : Refusal) → 0 < read_number (Err why)
unfolding read_number given
read_number-of-refused Refusal.NoStep = omega arith
read_number-of-refused Refusal.CutOff = omega arith
read_number-of-refused Refusal.OddStore = omega arith
