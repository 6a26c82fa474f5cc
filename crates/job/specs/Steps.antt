-- Paper 01, "Jobs": a job as the list of its steps, in their order, each with "the word index" of its first word.
-- What is refused stands in the list too, at its place, and ends it.
use Rattle.std.specs.Prelude.{ℕ, zero, suc, ◌+◌, List, [], ◌∷◌, Some, None, Ok, Err}
use Rattle.job.specs.Types.{Read}
use Rattle.job.specs.Step.{operands, front}

pub record Placed : Type 0 where
  pub place : ℕ
  pub read : Read

abbrev pub placed : (place : ℕ) → Read → Placed
placed place read = record { place = place; read = read }

-- what comes behind: past a step's words the later steps, past what is refused none; the end has no words
unfoldable pub behind : Read → (later : (skip : ℕ) → List Placed) → List Placed
behind (Ok (Some (step, next))) later = later (operands step)
behind (Ok None) later = later 0
behind (Err why) later = []

-- the steps of a run of words, of which the first is word `at` of the job and the first `skip` belong to the step
-- before
unfoldable pub steps_from : (skip at : ℕ) → (words : List ℕ) → List Placed
steps_from skip at [] = []
steps_from zero at (first ∷ rest) =
    placed at (front at (first ∷ rest))
    ∷ behind (front at (first ∷ rest)) (λ skip. steps_from skip (at + 1) rest)
steps_from (suc skip) at (word ∷ rest) = steps_from skip (at + 1) rest

abbrev pub steps : (job : List ℕ) → List Placed
steps job = steps_from 0 0 job
