-- The yes of a run is some of its blits': each step adds its own, and only a blit has one.
use Rattle.std.specs.Prelude.{if◌then◌else◌, Some, None, Ok, Err}
use Rattle.word.proofs.Base.{◌≡◌, refl, sym, ap, ◌∙◌, ℕ, Bool, true, false, ◌||◌, eqb, eqb-true, List, [], ◌∷◌, ◌++◌}
use mathlib.Core.Bool.{or-false, or_assoc}
use Rattle.blit.specs.Blit.{Outcome, refused}
use Rattle.blit.proofs.BlitLaws.{done-round}
use Rattle.job.specs.declared.types.Step.{Step}
use Rattle.job.specs.Types.{Read}
use Rattle.job.specs.Steps.{Placed, steps}
use Rattle.runner.specs.Effect.{taken, effect}
use Rattle.runner.specs.Run.{Machine, machine, effect_on, after, ended, run_steps, start_refusal, run}
use Rattle.runner.specs.OrOfItsBlits.{round_here, rounds_in, rounds, some, OrOfItsBlits}
use Rattle.runner.proofs.EffectLaws.{step_effect-when-done}

some-of-append : (these others : List Bool) → some (these ++ others) ≡ (some these || some others)
unfolding some
some-of-append [] others = refl
some-of-append (first ∷ rest) others =
    ap (λ (later : Bool). first || later) (some-of-append rest others) ∙ sym (or_assoc first (some rest) (some others))

-- what a step that is done says is what its blit says
taken-round : (step : Step) (next : ℕ) (memory file : List ℕ) → (taken step memory file).round ≡ some (round_here file (Ok (Some (step, next))))
unfolding taken round_here some
taken-round (Step.Register place value) next memory file = refl
taken-round (Step.Size size) next memory file = done-round memory file size ∙ sym (or-false _)
taken-round (Step.Store to value) next memory file = refl
taken-round (Step.Flag value) next memory file = refl

effect-round : (read : Read) (memory file : List ℕ) → (effect read memory file).number ≡ 0 → (effect read memory file).round ≡ some (round_here file read)
unfolding effect refused round_here some
effect-round (Ok (Some (step, next))) memory file done =
    ap (λ (outcome : Outcome). outcome.round) (step_effect-when-done step memory file done) ∙ taken-round step next memory file
effect-round (Ok None) memory file done = refl
effect-round (Err why) memory file done = refl

run_steps-round : (list : List Placed) (before : Machine) → (run_steps list before).machine.round ≡ (before.round || some (rounds_in list before))
unfolding run_steps rounds_in some
run_steps-round [] before = sym (or-false before.round)
run_steps-round (one ∷ rest) before =
    by-test (eqb (effect_on before one.read).number 0) refl (run_steps-round rest (after before (effect_on before one.read)))
  where
    later : List Bool
    later = rounds_in rest (after before (effect_on before one.read))

    by-test : (done : Bool) → eqb (effect_on before one.read).number 0 ≡ done
        → (run_steps rest (after before (effect_on before one.read))).machine.round ≡ ((before.round || (effect_on before one.read).round) || some later)
        → (if done then run_steps rest (after before (effect_on before one.read)) else
        ended (effect_on before one.read).number one.place before).machine.round
        ≡ (before.round || some (if done then round_here before.file one.read ++ later else []))
    by-test true same on =
        on
        ∙ or_assoc before.round (effect_on before one.read).round (some later)
        ∙ ap (λ (yes : Bool). before.round || (yes || some later))
        (effect-round one.read before.memory before.file (eqb-true (effect_on before one.read).number 0 same))
        ∙ ap (λ (yes : Bool). before.round || yes) (sym (some-of-append (round_here before.file one.read) later))
    by-test false same on = sym (or-false before.round)

pub or-of-its-blits : OrOfItsBlits
unfolding run rounds some
or-of-its-blits memory file job =
    by-start (eqb (start_refusal memory file job) 0) (run_steps-round (steps job) (machine memory file 0 false))
  where
    by-start : (starts : Bool) → (run_steps (steps job) (machine memory file 0 false)).machine.round ≡ some (rounds_in (steps job) (machine memory file 0 false))
        → (if starts then run_steps (steps job) (machine memory file 0 false) else
        ended (start_refusal memory file job) 0 (machine memory file 0 false)).machine.round
        ≡ some (if starts then rounds_in (steps job) (machine memory file 0 false) else [])
    by-start true on = on
    by-start false on = refl
