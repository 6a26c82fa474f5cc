-- Paper 02, W12: "the folder says yes exactly when it is done and kept one for that alone": a blit that every other
-- condition settles, and that goes round.
use Rattle.std.specs.Prelude.{ℕ, Bool, false, ◌||◌, List, [], ◌∷◌, Option, Some, None, Ok, Err}
use Rattle.job.specs.declared.types.Step.{Step}
use Rattle.job.specs.Types.{Read}
use Rattle.job.specs.Steps.{Placed, steps}
use Rattle.knowledge.specs.Knowledge.{nothing}
use Rattle.settled.specs.Settled.{kept_for_round}
use Rattle.folder.specs.Fold.{learned_after}

-- a step is such a blit
unfoldable pub keeps_for_round : (n : ℕ) → (known : List (Option ℕ)) → Step → Bool
keeps_for_round n known (Step.Register place value) = false
keeps_for_round n known (Step.Size size) = kept_for_round n known size
keeps_for_round n known (Step.Store to value) = false
keeps_for_round n known (Step.Flag value) = false

-- and what stands at a place
unfoldable pub keeps_there : (n : ℕ) → (known : List (Option ℕ)) → Read → Bool
keeps_there n known (Ok (Some (step, next))) = keeps_for_round n known step
keeps_there n known (Ok None) = false
keeps_there n known (Err why) = false

-- some step of a job is, by what is known before it
unfoldable pub keeps_some : (n : ℕ) → (known : List (Option ℕ)) → List Placed → Bool
keeps_some n known [] = false
keeps_some n known (one ∷ rest) =
    keeps_there n known one.read
    || keeps_some n (learned_after n known one.read) rest

unfoldable pub kept_from : (n : ℕ) → (known : List (Option ℕ)) → (job : List ℕ) → Bool
kept_from n known job = keeps_some n known (steps job)

-- "at the start none is" known
unfoldable pub kept : (n : ℕ) → (job : List ℕ) → Bool
kept n job = kept_from n nothing job
