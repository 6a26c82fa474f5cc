-- Paper 01, "Jobs" and "Numbers given back": a run takes a job's steps in order,
-- to the end or to the first refused one. Paper 02, W12: "Blit and runner pass up a yes".
use Rattle.std.specs.Prelude.{ℕ, ◌+◌, Bool, false, not, ◌||◌, List, [], ◌∷◌, eqb, length, if◌then◌else◌}
use Rattle.word.specs.Choice.{Rule, ◌when◌, given}
use Rattle.file.specs.File.{accepted}
use Rattle.word.specs.Memory.{memory_size}
use Rattle.blit.specs.Blit.{Outcome}
use Rattle.job.specs.Types.{Read}
use Rattle.job.specs.Length.{job_length}
use Rattle.job.specs.Steps.{Placed, steps_from}
use Rattle.runner.specs.Effect.{effect}

-- what a run carries from step to step: memory, register file, "the count of words stored by blits and store steps
-- together", and whether a pointer went round "in a blit that was done"
pub record Machine : Type 0 where
  pub memory : List ℕ
  pub file : List ℕ
  pub stored : ℕ
  pub round : Bool

abbrev pub machine : (memory file : List ℕ) → (stored : ℕ) → (round : Bool) → Machine
machine memory file stored round = record { memory = memory; file = file; stored = stored; round = round }

-- what stands at a place, on the machine that it finds; and the machine after a step that is done
abbrev pub effect_on : Machine → Read → Outcome
effect_on before read = effect read before.memory before.file

abbrev pub after : Machine → Outcome → Machine
after before outcome =
    machine outcome.memory outcome.file (before.stored + outcome.stored) (before.round || outcome.round)

-- what a run gives and leaves: "a number, the word index of the refused step (0 if done), and the count"
pub record End : Type 0 where
  pub number : ℕ
  pub place : ℕ
  pub machine : Machine

abbrev pub ended : (number place : ℕ) → Machine → End
ended number place last = record { number = number; place = place; machine = last }

-- "A runner refusal leaves memory, registers and count as after the last done step."
unfoldable pub run_steps : List Placed → Machine → End
run_steps [] before = ended 0 0 before
run_steps (one ∷ rest) before =
    if eqb (effect_on before one.read).number 0 then run_steps rest (after before (effect_on before one.read)) else
    ended (effect_on before one.read).number one.place before

-- the run of words of which the first is word `at` of the job
abbrev pub run_from : (at : ℕ) → (words : List ℕ) → Machine → End
run_from at words before = run_steps (steps_from 0 at words) before

-- "Order: 1, 2, 3; then step by step"
abbrev pub start_rules : (memory file job : List ℕ) → List Rule
start_rules memory file job =
    1 when memory_size (length memory)
    ∷ 2 when not (accepted file)
    ∷ 3 when job_length job
    ∷ []

unfoldable pub start_refusal : (memory file job : List ℕ) → ℕ
start_refusal memory file job = given (start_rules memory file job)

-- "1 to 3 have place 0, count 0 and change nothing."
unfoldable pub run : (memory file job : List ℕ) → End
run memory file job =
    if eqb (start_refusal memory file job) 0 then run_from 0 job (machine memory file 0 false) else
    ended (start_refusal memory file job) 0 (machine memory file 0 false)
