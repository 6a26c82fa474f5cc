-- A run that is refused at a step has started, and so has the job cut before that step; the cut job's run is done.
use Rattle.word.proofs.Base.{◌≡◌, sym, ap, ◌∙◌, ℕ, ◌<◌, ◌≤◌, zero-add, dec_lt, arith, false, List, length, take, drop}
use Rattle.word.proofs.Base.{length-append}
use lib.ListN.{take-append-drop}
use Rattle.job.specs.Step.{front, step_at}
use Rattle.runner.specs.Run.{machine, effect_on, End, ended, run_from, start_refusal, run}
use Rattle.runner.specs.RefusedRunStands.{RefusedRunStands}
use Rattle.runner.proofs.StartLaws.{start_refusal-le, run-when-started, run-when-unstarted, start_refusal-of-part}
use Rattle.runner.proofs.CutLaws.{CutBefore, cut-before}

pub take-le : (many : ℕ) (job : List ℕ) → length (take many job) ≤ length job
take-le many job = omega (arith, length-append (take many job) (drop many job), ap length (take-append-drop many job))

-- a run refused at a step, and the run of the job cut before it
pub record RefusedRun (memory file job : List ℕ) (end : End) : Type 0 where
  pub starts : start_refusal memory file job ≡ 0
  pub cut : run memory file (take end.place job) ≡ ended 0 0 end.machine
  pub here : (effect_on end.machine (step_at job end.place)).number ≡ end.number

module _ (memory file job : List ℕ) where
  refused-of-cut : (end : End) → start_refusal memory file job ≡ 0 → CutBefore 0 0 job (machine memory file 0 false) end
      → RefusedRun memory file job end
  unfolding step_at
  refused-of-cut end starts cut =
      let same : end.place ≡ cut.many = cut.place ∙ zero-add cut.many in
      record {
        starts = starts;
        cut =
            ap (λ (many : ℕ). run memory file (take many job)) same
            ∙ run-when-started memory file (take cut.many job)
            (start_refusal-of-part memory file job (take cut.many job) (take-le cut.many job) starts)
            ∙ cut.done;
        here =
            ap (λ (many : ℕ). (effect_on end.machine (front many (drop many job))).number) same
            ∙ ap (λ (at : ℕ). (effect_on end.machine (front at (drop cut.many job))).number) (sym (zero-add cut.many))
            ∙ cut.here;
      }

  pub starts-when-at-step : 3 < (run memory file job).number → start_refusal memory file job ≡ 0
  starts-when-at-step far = by_number (dec_lt 0 (start_refusal memory file job))
    where
      by_number : Dec (0 < start_refusal memory file job) → start_refusal memory file job ≡ 0
      by_number (yes some) =
          let same = ap (λ (end : End). end.number) (run-when-unstarted memory file job (λ none. omega arith)) in
          absurd (omega (arith, start_refusal-le memory file job))
      by_number (no none) = omega arith

  pub refused-run : 3 < (run memory file job).number → RefusedRun memory file job (run memory file job)
  refused-run far =
      let starts = starts-when-at-step far in
      let same = run-when-started memory file job starts in
      let far-steps : 3 < (run_from 0 job (machine memory file 0 false)).number = rw same at far in
      rw same (refused-of-cut (run_from 0 job (machine memory file 0 false)) starts (cut-before 0 0 job (machine memory file 0 false) (λ none. omega arith)))

pub refused-run-stands : RefusedRunStands
refused-run-stands memory file job far =
    let cut = (refused-run memory file job far).cut in
    record {
      done = ap (λ (end : End). end.number) cut;
      memory = sym (ap (λ (end : End). end.machine.memory) cut);
      file = sym (ap (λ (end : End). end.machine.file) cut);
      stored = sym (ap (λ (end : End). end.machine.stored) cut);
      round = sym (ap (λ (end : End). end.machine.round) cut);
    }
