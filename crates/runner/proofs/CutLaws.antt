-- Laws of a refused run: where it stops, the words before that place are whole steps, and their run is done.
use Rattle.std.specs.Prelude.{if◌then◌else◌, Some, None, Ok, Err}
use Rattle.word.proofs.Base.{◌≡◌, refl, sym, ap, ◌∙◌, ℕ, zero, suc, ◌+◌, ◌≤◌, add-zero, arith, Bool, true, false, ◌&&◌}
use Rattle.word.proofs.Base.{eqb, eq-eqb, eqb-true, List, [], ◌∷◌, take, drop}
use Rattle.blit.specs.Blit.{refused}
use Rattle.job.specs.declared.types.Step.{Step}
use Rattle.job.specs.Types.{Read}
use Rattle.job.specs.Step.{operands, front}
use Rattle.job.specs.Steps.{Placed, placed, behind, steps_from}
use Rattle.job.proofs.StepsLaws.{behind-either, read_number-of-refused}
use Rattle.job.proofs.WellCutLaws.{is_step, faultless}
use Rattle.runner.specs.Effect.{effect}
use Rattle.runner.specs.Run.{Machine, effect_on, after, End, ended, run_steps, run_from}
use Rattle.runner.proofs.FrontLaws.{front-of-take, front-is-some}
use Rattle.runner.proofs.RunLaws.{run_steps-when-done, run_steps-when-refused}

-- what stands at a word and has number 0 is a step
pub record IsStep (read : Read) : Type 0 where
  pub step : Step
  pub next : ℕ
  pub same : read ≡ Ok (Some (step, next))

front-when-done : (before : Machine) (at first : ℕ) (rest : List ℕ)
    → (effect_on before (front at (first ∷ rest))).number ≡ 0 → IsStep (front at (first ∷ rest))
unfolding effect refused
front-when-done before at first rest done = by_read (front at (first ∷ rest)) refl done
  where
    by_read : (read : Read) → front at (first ∷ rest) ≡ read → (effect_on before read).number ≡ 0 → IsStep read
    by_read (Ok (Some (step, next))) reads done = record { step = step; next = next; same = refl }
    by_read (Ok None) reads done = absurd (front-is-some at first rest reads)
    by_read (Err why) reads done = absurd (omega (arith, read_number-of-refused why))

-- where a run of words is refused: so many words before it are whole steps, and their run is done
pub record CutBefore (skip at : ℕ) (words : List ℕ) (before : Machine) (end : End) : Type 0 where
  pub many : ℕ
  pub place : end.place ≡ at + many
  pub past : skip ≤ many
  pub done : run_steps (steps_from skip at (take many words)) before ≡ ended 0 0 end.machine
  pub here : (effect_on end.machine (front (at + many) (drop many words))).number ≡ end.number

-- a word more before the run
cut_later : (skip at word : ℕ) (rest : List ℕ) (before : Machine) (end : End) → CutBefore skip (at + 1) rest before end
    → CutBefore (suc skip) at (word ∷ rest) before end
unfolding steps_from
cut_later skip at word rest before end cut =
    let same : at + 1 + cut.many ≡ at + suc cut.many = omega arith in
    record {
      many = suc cut.many;
      place = cut.place ∙ same;
      past = omega (arith, cut.past);
      done = cut.done;
      here =
          ap (λ (to : ℕ). (effect_on end.machine (front to (drop cut.many rest))).number) (sym same)
          ∙ cut.here;
    }

-- a step that is done before the run
cut-after-step : (at first : ℕ) (rest : List ℕ) (before : Machine) (end : End) (step : Step) (next : ℕ)
    → front at (first ∷ rest) ≡ Ok (Some (step, next)) → (effect_on before (Ok (Some (step, next)))).number ≡ 0
    → CutBefore (operands step) (at + 1) rest (after before (effect_on before (Ok (Some (step, next))))) end
    → CutBefore 0 at (first ∷ rest) before end
unfolding steps_from behind
cut-after-step at first rest before end step next reads taken cut =
    let same : at + 1 + cut.many ≡ at + suc cut.many = omega arith in
    record {
      many = suc cut.many;
      place = cut.place ∙ same;
      past = omega arith;
      done =
          ap (λ (read : Read). run_steps (placed at read ∷ behind read (λ skip. steps_from skip (at + 1) (take cut.many rest))) before)
          (front-of-take at cut.many first rest step next reads cut.past)
          ∙ run_steps-when-done (placed at (Ok (Some (step, next)))) (steps_from (operands step) (at + 1) (take cut.many rest)) before
          (effect_on before (Ok (Some (step, next)))) refl taken
          ∙ cut.done;
      here =
          ap (λ (to : ℕ). (effect_on end.machine (front to (drop cut.many rest))).number) (sym same)
          ∙ cut.here;
    }

-- the run is refused at its first word
cut-here : (at first : ℕ) (rest : List ℕ) (before : Machine)
    → CutBefore 0 at (first ∷ rest) before (ended (effect_on before (front at (first ∷ rest))).number at before)
unfolding steps_from run_steps
cut-here at first rest before =
    record {
      many = 0;
      place = sym (add-zero at);
      past = omega arith;
      done = refl;
      here = ap (λ (to : ℕ). (effect_on before (front to (first ∷ rest))).number) (add-zero at);
    }

-- the steps behind a first word, and their run
abbrev behind_first : (read : Read) (at : ℕ) (rest : List ℕ) → List Placed
behind_first read at rest = behind read (λ skip. steps_from skip (at + 1) rest)

onward : (read : Read) (at : ℕ) (rest : List ℕ) (before : Machine) → End
onward read at rest before = run_steps (behind_first read at rest) (after before (effect_on before read))

-- what holds of the rest after every step, holds of the run
cut-by-read : (at first : ℕ) (rest : List ℕ) (before : Machine) (read : Read) → front at (first ∷ rest) ≡ read
    → ((skip : ℕ) (on : Machine) → ((run_steps (steps_from skip (at + 1) rest) on).number ≡ 0 → ⊥)
    → CutBefore skip (at + 1) rest on (run_steps (steps_from skip (at + 1) rest) on))
    → IsStep read → (effect_on before read).number ≡ 0 → ((onward read at rest before).number ≡ 0 → ⊥)
    → CutBefore 0 at (first ∷ rest) before (onward read at rest before)
unfolding onward behind
cut-by-read at first rest before (Ok (Some (step, next))) reads later found done refusal =
    cut-after-step at first rest before
    (run_steps (steps_from (operands step) (at + 1) rest) (after before (effect_on before (Ok (Some (step, next)))))) step next reads done
    (later (operands step) (after before (effect_on before (Ok (Some (step, next))))) refusal)
cut-by-read at first rest before (Ok None) reads later found done refusal = absurd (front-is-some at first rest reads)
cut-by-read at first rest before (Err why) reads later found done refusal =
    let same = found.same in let n : ◌≡◌ {A = ℕ} 0 1 = cc in absurd (omega arith)

pub cut-before : (skip at : ℕ) (words : List ℕ) (before : Machine) → ((run_steps (steps_from skip at words) before).number ≡ 0 → ⊥)
    → CutBefore skip at words before (run_steps (steps_from skip at words) before)
unfolding steps_from run_steps onward
cut-before skip at [] before refusal = absurd (refusal refl)
cut-before (suc skip) at (word ∷ rest) before refusal =
    cut_later skip at word rest before (run_steps (steps_from skip (at + 1) rest) before) (cut-before skip (at + 1) rest before refusal)
cut-before zero at (first ∷ rest) before refusal =
    by-test (eqb (effect_on before (front at (first ∷ rest))).number 0) refl refusal
    (λ skip on. cut-before skip (at + 1) rest on)
  where
    by-test : (test : Bool) → eqb (effect_on before (front at (first ∷ rest))).number 0 ≡ test
        → ((if test then onward (front at (first ∷ rest)) at rest before else
        ended (effect_on before (front at (first ∷ rest))).number at before).number ≡ 0 → ⊥)
        → ((skip : ℕ) (on : Machine) → ((run_steps (steps_from skip (at + 1) rest) on).number ≡ 0 → ⊥)
        → CutBefore skip (at + 1) rest on (run_steps (steps_from skip (at + 1) rest) on))
        → CutBefore 0 at (first ∷ rest) before
        (if test then onward (front at (first ∷ rest)) at rest before else
        ended (effect_on before (front at (first ∷ rest))).number at before)
    by-test false same refusal later = cut-here at first rest before
    by-test true same refusal later =
        let done = eqb-true (effect_on before (front at (first ∷ rest))).number 0 same in
        cut-by-read at first rest before (front at (first ∷ rest)) refl later (front-when-done before at first rest done) done refusal

-- a run of words that is done is whole steps
faultless-by-read : (at : ℕ) (rest : List ℕ) (read : Read) → IsStep read
    → faultless (behind_first read at rest) ≡ true → faultless (placed at read ∷ behind_first read at rest) ≡ true
unfolding faultless is_step
faultless-by-read at rest read found later =
    ap (λ (other : Read). is_step other && faultless (behind_first read at rest)) found.same ∙ later

pub done-is-faultless : (skip at : ℕ) (words : List ℕ) (before : Machine) → (run_steps (steps_from skip at words) before).number ≡ 0
    → faultless (steps_from skip at words) ≡ true
unfolding steps_from run_steps onward faultless
done-is-faultless skip at [] before done = refl
done-is-faultless (suc skip) at (word ∷ rest) before done = done-is-faultless skip (at + 1) rest before done
done-is-faultless zero at (first ∷ rest) before done =
    by-test (eqb (effect_on before (front at (first ∷ rest))).number 0) refl done
    (λ skip on. done-is-faultless skip (at + 1) rest on)
  where
    by-test : (test : Bool) → eqb (effect_on before (front at (first ∷ rest))).number 0 ≡ test
        → (if test then onward (front at (first ∷ rest)) at rest before else
        ended (effect_on before (front at (first ∷ rest))).number at before).number ≡ 0
        → ((skip : ℕ) (on : Machine) → (run_steps (steps_from skip (at + 1) rest) on).number ≡ 0
        → faultless (steps_from skip (at + 1) rest) ≡ true)
        → faultless (placed at (front at (first ∷ rest)) ∷ behind_first (front at (first ∷ rest)) at rest) ≡ true
    by-test true same done later =
        faultless-by-read at rest (front at (first ∷ rest))
        (front-when-done before at first rest (eqb-true (effect_on before (front at (first ∷ rest))).number 0 same))
        (behind-either (λ list. (run_steps list (after before (effect_on before (front at (first ∷ rest))))).number ≡ 0 → faultless list ≡ true)
        (front at (first ∷ rest)) (λ skip. steps_from skip (at + 1) rest)
        (λ skip. later skip (after before (effect_on before (front at (first ∷ rest))))) (λ none. refl) done)
    by-test false same done later =
        let other = eq-eqb (effect_on before (front at (first ∷ rest))).number 0 done in
        let n : ◌≡◌ {A = ℕ} 0 1 = cc in absurd (omega arith)

-- what stands first is refused
pub run_from-when-refused : (at : ℕ) (words : List ℕ) (before : Machine) → ((effect_on before (front at words)).number ≡ 0 → ⊥)
    → run_from at words before ≡ ended (effect_on before (front at words)).number at before
unfolding steps_from front effect
run_from-when-refused at [] before refusal = absurd (refusal refl)
run_from-when-refused at (first ∷ rest) before refusal =
    run_steps-when-refused (placed at (front at (first ∷ rest))) (behind_first (front at (first ∷ rest)) at rest) before
    (effect_on before (front at (first ∷ rest))) refl refusal
