-- Paper 02, W12: "Blit and runner pass up a yes exactly when some used channel (in a line, C) went round between two of
-- its accesses in a blit that was done." The yes of a run is that of one of the blits that it does.
use Rattle.std.specs.Prelude.{ℕ, ◌≡◌, Bool, false, ◌||◌, List, [], ◌∷◌, ◌++◌, eqb, if◌then◌else◌, Some, None, Ok, Err}
use Rattle.round.specs.Round.{goes_round}
use Rattle.job.specs.declared.types.Step.{Step}
use Rattle.job.specs.Types.{Read}
use Rattle.job.specs.Steps.{Placed, steps}
use Rattle.runner.specs.Run.{Machine, machine, effect_on, after, start_refusal, run}

-- of a blit, whether it goes round, by the register file that it finds; no other step says anything
unfoldable pub round_here : (file : List ℕ) → Read → List Bool
round_here file (Ok (Some (Step.Register place value, next))) = []
round_here file (Ok (Some (Step.Size size, next))) = goes_round file size ∷ []
round_here file (Ok (Some (Step.Store to value, next))) = []
round_here file (Ok (Some (Step.Flag value, next))) = []
round_here file (Ok None) = []
round_here file (Err why) = []

-- of each blit that is done, in order; the first refused step isn't done, and what stands behind it isn't taken
unfoldable pub rounds_in : List Placed → Machine → List Bool
rounds_in [] before = []
rounds_in (one ∷ rest) before =
    if eqb (effect_on before one.read).number 0 then
    round_here before.file one.read ++ rounds_in rest (after before (effect_on before one.read)) else
    []

-- of each that a run does; one that is refused with 1, 2 or 3 does none
unfoldable pub rounds : (memory file job : List ℕ) → List Bool
rounds memory file job =
    if eqb (start_refusal memory file job) 0 then rounds_in (steps job) (machine memory file 0 false) else
    []

-- one of them is a yes
unfoldable pub some : List Bool → Bool
some [] = false
some (first ∷ rest) = first || some rest

abbrev pub OrOfItsBlits : Type 0
OrOfItsBlits = (memory file job : List ℕ) → (run memory file job).machine.round ≡ some (rounds memory file job)
