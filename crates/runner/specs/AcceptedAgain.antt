-- What a step and a run leave can be gone on with, where the words of memory and job have 16 bits: a register file that is
-- accepted is accepted again, and memory has as many words of 16 bits as before.
use Rattle.std.specs.Prelude.{ℕ, List}
use Rattle.word.specs.Word.{SixteenBits}
use Rattle.blit.specs.AcceptedAgain.{Ready}
use Rattle.job.specs.Step.{step_at}
use Rattle.runner.specs.Effect.{effect}
use Rattle.runner.specs.Run.{run}

-- what stands at a place of a job, done or refused; and the whole job, to its end or to the first refused step
pub record AcceptedAgain : Type 0 where
  pub step : (n : ℕ) (memory file job : List ℕ) (place : ℕ)
      → SixteenBits job
      → Ready n memory file
      → Ready n (effect (step_at job place) memory file).memory (effect (step_at job place) memory file).file
  pub run : (n : ℕ) (memory file job : List ℕ)
      → SixteenBits job
      → Ready n memory file
      → Ready n (run memory file job).machine.memory (run memory file job).machine.file
