-- Paper 01, "Folding": the folded job, from a given knowledge. "All other steps are copied."
use Rattle.std.specs.Prelude.{ℕ, ◌+◌, List, [], ◌∷◌, ◌++◌, take, drop, if◌then◌else◌, Option, Some, None, Ok, Err}
use Rattle.job.specs.declared.types.Step.{Step}
use Rattle.job.specs.Types.{Read}
use Rattle.job.specs.Step.{operands}
use Rattle.job.specs.Steps.{Placed, steps}
use Rattle.stores.specs.Stores.{final_d}
use Rattle.settled.specs.Words.{settled_words}
use Rattle.knowledge.specs.Knowledge.{nothing, numbers}
use Rattle.learning.specs.Learn.{written, forgotten, moved_d}
use Rattle.settled.specs.Settled.{settled}

-- what a step becomes; raw are its own words
unfoldable pub becomes : (n : ℕ) → (known : List (Option ℕ)) → Step → (raw : List ℕ) → List ℕ
becomes n known (Step.Register place value) raw = raw
becomes n known (Step.Size size) raw =
    if settled n known size then settled_words (numbers known) size else raw
becomes n known (Step.Store to value) raw = raw
becomes n known (Step.Flag value) raw = raw

-- what is known after a step
unfoldable pub learned : (n : ℕ) → (known : List (Option ℕ)) → Step → List (Option ℕ)
learned n known (Step.Register place value) = written place value known
learned n known (Step.Size size) =
    if settled n known size then moved_d (final_d (numbers known) size) known else
    forgotten known
learned n known (Step.Store to value) = known
learned n known (Step.Flag value) = known

-- the words of the step at a place of the job
abbrev pub raw_words : (job : List ℕ) → (at : ℕ) → Step → List ℕ
raw_words job at step = take (1 + operands step) (drop at job)

-- what stands at a place becomes, and what is known after it; what is no step becomes nothing, and the folder refuses
-- the job for it
unfoldable pub piece : (n : ℕ) → (known : List (Option ℕ)) → (job : List ℕ) → (at : ℕ) → Read → List ℕ
piece n known job at (Ok (Some (step, next))) = becomes n known step (raw_words job at step)
piece n known job at (Ok None) = []
piece n known job at (Err why) = []

unfoldable pub learned_after : (n : ℕ) → (known : List (Option ℕ)) → Read → List (Option ℕ)
learned_after n known (Ok (Some (step, next))) = learned n known step
learned_after n known (Ok None) = known
learned_after n known (Err why) = known

-- the folding of a job's steps, one after the other
unfoldable pub fold_steps : (n : ℕ) → (known : List (Option ℕ)) → (job : List ℕ) → List Placed → List ℕ
fold_steps n known job [] = []
fold_steps n known job (one ∷ rest) =
    piece n known job one.place one.read
    ++ fold_steps n (learned_after n known one.read) job rest

unfoldable pub fold_from : (n : ℕ) → (known : List (Option ℕ)) → (job : List ℕ) → List ℕ
fold_from n known job = fold_steps n known job (steps job)

-- "at the start none is" known
unfoldable pub fold : (n : ℕ) → (job : List ℕ) → List ℕ
fold n job = fold_from n nothing job
