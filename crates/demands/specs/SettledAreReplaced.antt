-- Demand 3: "Every blit that 01 calls settled has been replaced by its words, and no other blit has."
-- The steps of the folded job are, in their order, for each step of the original the steps of its words where it is a
-- settled blit, and the step itself otherwise.
use Rattle.std.specs.Prelude.{ℕ, ◌+◌, ◌≡◌, List, [], ◌∷◌, ◌++◌, if◌then◌else◌, Some, None, Ok, Err, Option}
use Rattle.job.specs.declared.types.Step.{Step}
use Rattle.job.specs.Types.{Read}
use Rattle.job.specs.Step.{operands, found}
use Rattle.job.specs.Steps.{Placed, placed, steps}
use Rattle.knowledge.specs.Knowledge.{nothing, numbers}
use Rattle.settled.specs.Words.{settled_words}
use Rattle.settled.specs.Settled.{settled}
use Rattle.folder.specs.Fold.{learned}
use Rattle.demands.specs.DemandThree.{FolderAccepts, folded_job}

-- the steps of a list, without their places
unfoldable pub bare_step : Read → List Step
bare_step (Ok (Some (step, next))) = step ∷ []
bare_step (Ok None) = []
bare_step (Err why) = []

unfoldable pub bare_steps : List Placed → List Step
bare_steps [] = []
bare_steps (one ∷ rest) = bare_step one.read ++ bare_steps rest

-- steps that stand one after the other from a place on, each with its place; nothing stands between them
unfoldable pub placed_from : (at : ℕ) → List Step → List Placed
placed_from at [] = []
placed_from at (step ∷ rest) = placed at (found at step) ∷ placed_from (at + (1 + operands step)) rest

-- what a step becomes on what is known before it: "a settled 058 write becomes" its words' steps, "all other steps" stay
unfoldable pub replaced : (n : ℕ) → (known : List (Option ℕ)) → Step → List Step
replaced n known (Step.Register place value) = Step.Register place value ∷ []
replaced n known (Step.Size size) =
    if settled n known size then bare_steps (steps (settled_words (numbers known) size)) else
    Step.Size size ∷ []
replaced n known (Step.Store to value) = Step.Store to value ∷ []
replaced n known (Step.Flag value) = Step.Flag value ∷ []

-- what the steps of a job become, one after the other
unfoldable pub all_replaced : (n : ℕ) → (known : List (Option ℕ)) → List Step → List Step
all_replaced n known [] = []
all_replaced n known (step ∷ rest) = replaced n known step ++ all_replaced n (learned n known step) rest

-- nothing is known at the start
abbrev pub SettledAreReplaced : Type 0
SettledAreReplaced =
    (n : ℕ) (job out : List ℕ)
    → FolderAccepts n job out
    → steps (folded_job n job out) ≡ placed_from 0 (all_replaced n nothing (bare_steps (steps job)))
