-- 1 to 3 are the rules of the list before the first step. A refused run stops where the steps before are done and a row applies;
-- and where that is so the run can stop nowhere else, for the run of the steps before is the run's beginning.
use Rattle.word.proofs.Base.{◌≡◌, refl, sym, ap, ◌∙◌, ℕ, ◌+◌, ◌<◌, ◌≤◌, zero-add, dec_lt, arith, List, length, take, false}
use Rattle.word.proofs.Base.{drop, length-take-le}
use lib.ListN.{take-append-drop}
use Rattle.word.specs.Choice.{given}
use Rattle.job.specs.Types.{Read}
use Rattle.job.specs.Step.{front, step_at}
use Rattle.job.proofs.StepLaws.{step_at-at-end}
use Rattle.job.proofs.WellCutLaws.{well_cut}
use Rattle.runner.specs.Effect.{effect}
use Rattle.runner.specs.Run.{Machine, machine, effect_on, End, ended, run_from, start_refusal, run}
use Rattle.runner.specs.EachNumberExactly.{rules_on, RefusedAt, ExactNumbers, EachNumberExactly}
use Rattle.runner.proofs.StartLaws.{start_refusal-is-one, start_refusal-is-two, start_refusal-is-three, start_refusal-when-memory, start_refusal-when-file, start_refusal-when-length, start_refusal-of-part, run-when-started, run-when-unstarted}
use Rattle.runner.proofs.RulesLaws.{rules_on-is-effect, rules_on-lt}
use Rattle.runner.proofs.RunAppendLaws.{followed_by-when-done, run_from-of-append}
use Rattle.runner.proofs.CutLaws.{cut-before, done-is-faultless, run_from-when-refused}
use Rattle.runner.proofs.RefusedRunStandsLaws.{take-le, refused-run}

-- at the job's end nothing is refused
step_at-inside : (job : List ℕ) (place : ℕ) (before : Machine) → ((effect_on before (step_at job place)).number ≡ 0 → ⊥) → place ≤ length job
unfolding effect
step_at-inside job place before refusal = by_order (dec_lt (length job) place)
  where
    by_order : Dec (length job < place) → place ≤ length job
    by_order (yes past) =
        absurd (refusal (ap (λ (read : Read). (effect_on before read).number) (sym (step_at-at-end job place (omega arith)))))
    by_order (no inside) = omega arith

module _ (memory file job : List ℕ) where
  -- a run of which so many words are done goes on there
  runs_on : (place : ℕ) → place ≤ length job → (run_from 0 (take place job) (machine memory file 0 false)).number ≡ 0
      → run_from 0 job (machine memory file 0 false) ≡ run_from place (drop place job) (run_from 0 (take place job) (machine memory file 0 false)).machine
  unfolding well_cut
  runs_on place inside done =
      let same : 0 + length (take place job) ≡ place = zero-add (length (take place job)) ∙ length-take-le place job inside in
      ap (λ (words : List ℕ). run_from 0 words (machine memory file 0 false)) (sym (take-append-drop place job))
      ∙ run_from-of-append 0 (take place job) (drop place job) (machine memory file 0 false)
      (done-is-faultless 0 0 (take place job) (machine memory file 0 false) done)
      ∙ followed_by-when-done (run_from 0 (take place job) (machine memory file 0 false)) (run_from (0 + length (take place job)) (drop place job)) done
      ∙ ap (λ (at : ℕ). run_from at (drop place job) (run_from 0 (take place job) (machine memory file 0 false)).machine) same

  refused-where : (place number : ℕ) → 3 < number → RefusedAt memory file job place number
      → ((run memory file job).number ≡ number) × ((run memory file job).place ≡ place)
  unfolding step_at
  refused-where place number far stops =
      let cut = run-when-started memory file (take place job)
      (start_refusal-of-part memory file job (take place job) (take-le place job) stops.starts) in
      let last : Machine = (run memory file (take place job)).machine in
      let gives : (effect_on last (step_at job place)).number ≡ number
      = sym (rules_on-is-effect last (step_at job place)) ∙ stops.here in
      let refusal : (effect_on last (step_at job place)).number ≡ 0 → ⊥ = λ none. omega (arith, sym gives ∙ none) in
      let on = runs_on place (step_at-inside job place last refusal) (sym (ap (λ (end : End). end.number) cut) ∙ stops.earlier) in
      let whole : run memory file job ≡ ended (effect_on last (step_at job place)).number place last
      = run-when-started memory file job stops.starts
      ∙ on
      ∙ ap (λ (end : End). run_from place (drop place job) end.machine) (sym cut)
      ∙ run_from-when-refused place (drop place job) last refusal in
      (ap (λ (end : End). end.number) whole ∙ gives, ap (λ (end : End). end.place) whole)

  stops-where : (place number : ℕ) → 3 < number → ((run memory file job).number ≡ number) × ((run memory file job).place ≡ place)
      → RefusedAt memory file job place number
  stops-where place number far given_so =
      let stops = refused-run memory file job (rw given_so.0 far) in
      let cut : run memory file (take place job) ≡ ended 0 0 (run memory file job).machine
      = ap (λ (at : ℕ). run memory file (take at job)) (sym given_so.1) ∙ stops.cut in
      record {
        starts = stops.starts;
        earlier = ap (λ (end : End). end.number) cut;
        here =
            ap (λ (end : End). given (rules_on end.machine (step_at job place))) cut
            ∙ rules_on-is-effect (run memory file job).machine (step_at job place)
            ∙ ap (λ (at : ℕ). (effect_on (run memory file job).machine (step_at job at)).number) (sym given_so.1)
            ∙ stops.here
            ∙ given_so.0;
      }

  -- a run that has started is done or refused at a step; one that hasn't has the number of its start
  run-lt : start_refusal memory file job ≡ 0 → ((run memory file job).number ≡ 0 → ⊥) → 3 < (run memory file job).number
  run-lt starts refusal =
      let same = run-when-started memory file job starts in
      let cut = cut-before 0 0 job (machine memory file 0 false) (λ none. refusal (ap (λ (end : End). end.number) same ∙ none)) in
      let end : End = run_from 0 job (machine memory file 0 false) in
      let read : Read = front (0 + cut.many) (drop cut.many job) in
      let number : given (rules_on end.machine read) ≡ (run memory file job).number
      = rules_on-is-effect end.machine read ∙ cut.here ∙ sym (ap (λ (end : End). end.number) same) in
      rw number at (rules_on-lt end.machine read (λ none. refusal (sym number ∙ none)))

  number-of-start : (run memory file job).number ≤ 3 → ((run memory file job).number ≡ 0 → ⊥)
      → start_refusal memory file job ≡ (run memory file job).number
  number-of-start few refusal = by_number (dec_lt 0 (start_refusal memory file job))
    where
      by_number : Dec (0 < start_refusal memory file job) → start_refusal memory file job ≡ (run memory file job).number
      by_number (yes some) = sym (ap (λ (end : End). end.number) (run-when-unstarted memory file job (λ none. omega arith)))
      by_number (no none) = absurd (omega (arith, run-lt (omega arith) refusal))

  start-of-number : (number : ℕ) → 0 < number → start_refusal memory file job ≡ number → (run memory file job).number ≡ number
  start-of-number number some same =
      ap (λ (end : End). end.number) (run-when-unstarted memory file job (λ none. omega arith)) ∙ same

  starts-when-done : (run memory file job).number ≡ 0 → start_refusal memory file job ≡ 0
  starts-when-done done = by_number (dec_lt 0 (start_refusal memory file job))
    where
      by_number : Dec (0 < start_refusal memory file job) → start_refusal memory file job ≡ 0
      by_number (yes some) =
          let same = ap (λ (end : End). end.number) (run-when-unstarted memory file job (λ none. omega arith)) in absurd (omega arith)
      by_number (no none) = omega arith

  done-when-nowhere : start_refusal memory file job ≡ 0 → ((place number : ℕ) → 3 < number → RefusedAt memory file job place number → ⊥)
      → (run memory file job).number ≡ 0
  done-when-nowhere starts nowhere = by_number (dec_lt 0 (run memory file job).number)
    where
      by_number : Dec (0 < (run memory file job).number) → (run memory file job).number ≡ 0
      by_number (yes some) =
          let far = run-lt starts (λ none. omega arith) in
          absurd
          (nowhere (run memory file job).place (run memory file job).number far
          (stops-where (run memory file job).place (run memory file job).number far (refl, refl)))
      by_number (no none) = omega arith

  numbers : ExactNumbers memory file job
  numbers =
      record {
        one = (
          λ same. start_refusal-is-one memory file job (number-of-start (omega arith) (λ none. omega arith) ∙ same),
          λ bad. start-of-number 1 (omega arith) (start_refusal-when-memory memory file job bad),
        );
        two = (
          λ same. start_refusal-is-two memory file job (number-of-start (omega arith) (λ none. omega arith) ∙ same),
          λ bad. start-of-number 2 (omega arith) (start_refusal-when-file memory file job bad.0 bad.1),
        );
        three = (
          λ same. start_refusal-is-three memory file job (number-of-start (omega arith) (λ none. omega arith) ∙ same),
          λ bad. start-of-number 3 (omega arith) (start_refusal-when-length memory file job bad.0 bad.1 bad.2),
        );
        step = λ place number far. (stops-where place number far, refused-where place number far);
        done = (
          λ done. (starts-when-done done, λ place number far stops. omega (arith, (refused-where place number far stops).0)),
          λ none. done-when-nowhere none.0 none.1,
        );
      }

pub each-number-exactly : EachNumberExactly
each-number-exactly memory file job = numbers memory file job
