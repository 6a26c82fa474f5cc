-- Laws of the lengths of memory and file: no step changes them, and no run changes that of memory.
use Rattle.std.specs.Prelude.{if◌then◌else◌, Some, None, Ok, Err}
use Rattle.word.proofs.Base.{◌≡◌, refl, ◌∙◌, ℕ, Bool, true, false, eqb, List, [], ◌∷◌, length, length-set}
use Rattle.file.specs.File.{kept}
use Rattle.file.specs.Places.{flag}
use Rattle.blit.specs.Blit.{Outcome, refused}
use Rattle.blit.proofs.BlitLaws.{blit_step-keeps-memory-length, blit_step-keeps-file-length}
use Rattle.job.specs.declared.types.Step.{Step}
use Rattle.job.specs.Types.{Read}
use Rattle.job.specs.Steps.{Placed}
use Rattle.runner.specs.Effect.{taken, step_effect, effect}
use Rattle.runner.proofs.EffectLaws.{step_effect-either, step_effect-of-blit}
use Rattle.runner.specs.Run.{Machine, effect_on, after, ended, run_steps}

SameLengths : (memory file : List ℕ) → Outcome → Type 0
SameLengths memory file outcome = (length outcome.memory ≡ length memory) × (length outcome.file ≡ length file)

-- a refused step keeps them
kept-by-refused : (memory file : List ℕ) (number : ℕ) → SameLengths memory file (refused number memory file)
unfolding SameLengths refused
kept-by-refused memory file number = (refl, refl)

step_effect-keeps-lengths : (step : Step) (memory file : List ℕ) → SameLengths memory file (step_effect step memory file)
unfolding SameLengths taken
step_effect-keeps-lengths (Step.Register place value) memory file =
    step_effect-either (SameLengths memory file) (Step.Register place value) memory file
    (refl, length-set file place (kept place value)) (kept-by-refused memory file)
step_effect-keeps-lengths (Step.Size size) memory file =
    rw (step_effect-of-blit size memory file) (blit_step-keeps-memory-length memory file size, blit_step-keeps-file-length memory file size)
step_effect-keeps-lengths (Step.Store to value) memory file =
    step_effect-either (SameLengths memory file) (Step.Store to value) memory file
    (length-set memory to value, refl) (kept-by-refused memory file)
step_effect-keeps-lengths (Step.Flag value) memory file =
    step_effect-either (SameLengths memory file) (Step.Flag value) memory file
    (refl, length-set file flag value) (kept-by-refused memory file)

effect-keeps-lengths : (read : Read) (memory file : List ℕ) → SameLengths memory file (effect read memory file)
unfolding SameLengths effect refused
effect-keeps-lengths (Ok (Some (step, next))) memory file = step_effect-keeps-lengths step memory file
effect-keeps-lengths (Ok None) memory file = (refl, refl)
effect-keeps-lengths (Err why) memory file = (refl, refl)

pub effect-keeps-memory-length : (read : Read) (memory file : List ℕ) → length (effect read memory file).memory ≡ length memory
unfolding SameLengths
effect-keeps-memory-length read memory file = (effect-keeps-lengths read memory file).0

pub effect-keeps-file-length : (read : Read) (memory file : List ℕ) → length (effect read memory file).file ≡ length file
unfolding SameLengths
effect-keeps-file-length read memory file = (effect-keeps-lengths read memory file).1

pub run_steps-keeps-memory-length : (list : List Placed) (before : Machine)
    → length (run_steps list before).machine.memory ≡ length before.memory
unfolding run_steps
run_steps-keeps-memory-length [] before = refl
run_steps-keeps-memory-length (one ∷ rest) before =
    by-test (eqb (effect_on before one.read).number 0) (run_steps-keeps-memory-length rest (after before (effect_on before one.read)))
  where
    by-test : (done : Bool)
        → length (run_steps rest (after before (effect_on before one.read))).machine.memory ≡ length (effect_on before one.read).memory
        → length
        (if done then run_steps rest (after before (effect_on before one.read)) else
        ended (effect_on before one.read).number one.place before).machine.memory ≡ length before.memory
    by-test true later = later ∙ effect-keeps-memory-length one.read before.memory before.file
    by-test false later = refl
