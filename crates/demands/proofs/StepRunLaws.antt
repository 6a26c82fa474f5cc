-- Laws of the run of words that begin with a step: the step is taken, and the run goes on after its words.
use Rattle.std.specs.Prelude.{if◌then◌else◌, Ok, Some}
use Rattle.word.proofs.Base.{◌≡◌, refl, sym, ap, ◌∙◌, ℕ, ◌+◌, one-add, arith, Bool, true, false, eqb, List, [], ◌∷◌}
use Rattle.word.proofs.Base.{◌++◌, length, drop}
use lib.Seq.{drop_at}
use Rattle.blit.specs.Blit.{Outcome}
use Rattle.job.specs.declared.types.Step.{Step}
use Rattle.job.specs.Types.{Read}
use Rattle.job.specs.Step.{operands, found, front}
use Rattle.job.specs.Steps.{Placed, placed, behind, steps_from}
use Rattle.job.proofs.StepLaws.{front-of-append}
use Rattle.job.proofs.StepsLaws.{steps_from-of-skip}
use Rattle.runner.specs.Effect.{step_effect, effect}
use Rattle.runner.specs.Run.{Machine, after, End, ended, run_steps, run_from}

-- two ends that agree in all but the place
pub record SameButPlace (this other : End) : Type 0 where
  pub numbers : this.number ≡ other.number
  pub machines : this.machine ≡ other.machine

pub empty-begins-nothing : (at : ℕ) (step : Step) → front at [] ≡ found at step → ⊥
unfolding front found
empty-begins-nothing at step reads = let n : ◌≡◌ {A = ℕ} 0 1 = cc in omega arith

-- a step with its operands, and the run after it
found-runs : (at first : ℕ) (rest : List ℕ) (step : Step) (before : Machine)
    → (if eqb (effect (found at step) before.memory before.file).number 0
    then run_steps (behind (found at step) (λ skip. steps_from skip (at + 1) rest)) (after before (effect (found at step) before.memory before.file))
    else ended (effect (found at step) before.memory before.file).number at before)
    ≡ (if eqb (step_effect step before.memory before.file).number 0
    then run_from (at + 1 + operands step) (drop (1 + operands step) (first ∷ rest)) (after before (step_effect step before.memory before.file))
    else ended (step_effect step before.memory before.file).number at before)
unfolding effect found behind
found-runs at first rest step before =
    ap (λ (list : List Placed). if eqb (step_effect step before.memory before.file).number 0
    then run_steps list (after before (step_effect step before.memory before.file))
    else ended (step_effect step before.memory before.file).number at before)
    (steps_from-of-skip (operands step) (at + 1) rest
    ∙ ap (λ (n : ℕ). steps_from 0 (at + 1 + operands step) (drop n (first ∷ rest))) (sym (one-add (operands step))))

-- the run of words that begin with a step
pub run-of-step : (at : ℕ) (words : List ℕ) (step : Step) (before : Machine) → front at words ≡ found at step
    → run_from at words before
    ≡ (if eqb (step_effect step before.memory before.file).number 0
    then run_from (at + 1 + operands step) (drop (1 + operands step) words) (after before (step_effect step before.memory before.file))
    else ended (step_effect step before.memory before.file).number at before)
unfolding steps_from run_steps
run-of-step at [] step before reads = absurd (empty-begins-nothing at step reads)
run-of-step at (first ∷ rest) step before reads = by_read (front at (first ∷ rest)) reads
  where
    by_read : (read : Read) → read ≡ found at step
        → (if eqb (effect read before.memory before.file).number 0
        then run_steps (behind read (λ skip. steps_from skip (at + 1) rest)) (after before (effect read before.memory before.file))
        else ended (effect read before.memory before.file).number at before)
        ≡ (if eqb (step_effect step before.memory before.file).number 0
        then run_from (at + 1 + operands step) (drop (1 + operands step) (first ∷ rest)) (after before (step_effect step before.memory before.file))
        else ended (step_effect step before.memory before.file).number at before)
    by_read read same = rw same (found-runs at first rest step before)

-- two runs that go on alike, or have ended
pub goes_on : (number at place : ℕ) (before : Machine) (this other : End) (test : Bool) → SameButPlace this other
    → SameButPlace (if test then this else ended number at before) (if test then other else ended number place before)
goes_on number at place before this other true alike = alike
goes_on number at place before this other false alike = record { numbers = refl; machines = refl }

pub decoded : (at : ℕ) (raw more : List ℕ) (step : Step) → front at raw ≡ found at step → front at (raw ++ more) ≡ found at step
unfolding found
decoded at raw more step reads = front-of-append at raw more step (at + (1 + operands step)) reads

-- a step that is copied
pub copied_runs : (at place next : ℕ) (raw more : List ℕ) (step : Step) (rest : List Placed) (before : Machine)
    → length raw ≡ 1 + operands step → ((to : ℕ) → front to raw ≡ found to step)
    → SameButPlace (run_from (at + 1 + operands step) more (after before (step_effect step before.memory before.file)))
    (run_steps rest (after before (step_effect step before.memory before.file)))
    → SameButPlace (run_from at (raw ++ more) before) (run_steps (placed place (Ok (Some (step, next))) ∷ rest) before)
unfolding run_steps effect
copied_runs at place next raw more step rest before long decodes later =
    let outcome : Outcome = step_effect step before.memory before.file in
    rw (run-of-step at (raw ++ more) step before (decoded at raw more step (decodes at)), drop_at raw more (1 + operands step) long)
    (goes_on outcome.number at place before (run_from (at + 1 + operands step) more (after before outcome)) (run_steps rest (after before outcome)) (eqb outcome.number 0) later)
