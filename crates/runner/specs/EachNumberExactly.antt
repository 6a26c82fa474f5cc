-- Paper 01, "Numbers given back", as paper 02 leaves it: each number is "given exactly when" its row says and no
-- earlier one does, in the paper's order.
use Rattle.std.specs.Prelude.{ℕ, ◌<◌, ◌≡◌, true, false, List, ◌↔◌, length, take}
use Rattle.word.specs.Choice.{Rule, given}
use Rattle.file.specs.File.{accepted}
use Rattle.word.specs.Memory.{memory_size}
use Rattle.job.specs.Types.{Read}
use Rattle.job.specs.Step.{step_at}
use Rattle.job.specs.Length.{job_length}
use Rattle.runner.specs.Effect.{rules_at}
use Rattle.runner.specs.Run.{Machine, start_refusal, run}

-- the rules for what stands at a place, on the machine that it finds
abbrev pub rules_on : Machine → Read → List Rule
rules_on before read = rules_at (length before.memory) before.file read

-- a job is refused at a place with a number: none of 1 to 3 applies; the job cut before that place is done;
-- and for what stands there, on the machine that the done steps leave, the first rule that applies has the number
pub record RefusedAt (memory file job : List ℕ) (place number : ℕ) : Type 0 where
  pub starts : start_refusal memory file job ≡ 0
  pub earlier : (run memory file (take place job)).number ≡ 0
  pub here : given (rules_on (run memory file (take place job)).machine (step_at job place)) ≡ number

pub record ExactNumbers (memory file job : List ℕ) : Type 0 where
  -- "N outside 1 to 262,144"
  pub one : (run memory file job).number ≡ 1 ↔ memory_size (length memory) ≡ true
  -- "register file not" 53 "words, or a bit set that isn't kept"
  pub two : (run memory file job).number ≡ 2 ↔ (memory_size (length memory) ≡ false) × (accepted file ≡ false)
  -- "job over 4,096 words"
  pub three :
      (run memory file job).number ≡ 3
      ↔ (memory_size (length memory) ≡ false) × (accepted file ≡ true) × (job_length job ≡ true)
  -- "step by step", with the place: 4, 5, 6, 10, and a blit's own numbers
  pub step : (place number : ℕ)
      → 3 < number
      → ((run memory file job).number ≡ number) × ((run memory file job).place ≡ place)
      ↔ RefusedAt memory file job place number
  -- "done": no row applies, before the first step or at one
  pub done :
      (run memory file job).number ≡ 0
      ↔ (start_refusal memory file job ≡ 0)
      × ((place number : ℕ) → 3 < number → RefusedAt memory file job place number → ⊥)

abbrev pub EachNumberExactly : Type 0
EachNumberExactly = (memory file job : List ℕ) → ExactNumbers memory file job
