-- Paper 01, "Numbers given back": "A runner refusal leaves memory, registers and count as after the last done step."
-- The run of the job cut before the refused step is done, and leaves what the refused run leaves.
use Rattle.std.specs.Prelude.{ℕ, ◌<◌, ◌≡◌, List, take}
use Rattle.runner.specs.Run.{End, run}

pub record StandsAs (refused cut : End) : Type 0 where
  pub done : cut.number ≡ 0
  pub memory : refused.machine.memory ≡ cut.machine.memory
  pub file : refused.machine.file ≡ cut.machine.file
  pub stored : refused.machine.stored ≡ cut.machine.stored
  pub round : refused.machine.round ≡ cut.machine.round

-- 1 to 3 are given before the first step, all other numbers at a step
abbrev pub RefusedRunStands : Type 0
RefusedRunStands =
    (memory file job : List ℕ)
    → 3 < (run memory file job).number
    → StandsAs (run memory file job) (run memory file (take (run memory file job).place job))
