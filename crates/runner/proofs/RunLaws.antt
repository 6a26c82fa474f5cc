-- Laws of a run: its first step, how it goes on from a place of the job by what stands there, and what is refused before the first step.
use Rattle.std.specs.Prelude.{Option, Some, None, Ok, Err}
use Rattle.word.proofs.Base.{◌≡◌, refl, sym, ap, ◌∙◌, ℕ, ◌+◌, ◌*◌, ◌≤◌, arith, Bool, true, false, ◌||◌, not, eq-eqb}
use Rattle.word.proofs.Base.{ne_eqb, List, [], ◌∷◌, length, drop}
use mir.Val.{Fits}
use mir.Syntax.{w32}
use Rattle.word.specs.Choice.{given}
use Rattle.file.specs.File.{accepted}
use Rattle.word.specs.Memory.{memory_size}
use Rattle.blit.specs.Blit.{Outcome, refused}
use Rattle.refusal.specs.declared.types.Refusal.TheVariants.{MemorySize, RegisterFile}
use Rattle.refusal.proofs.RefusalLaws as blits
use Rattle.job.specs.declared.types.Refusal as jobs
use Rattle.job.specs.declared.types.Step.{Step}
use Rattle.job.specs.Types.{Read}
use Rattle.job.specs.Length.{job_most, job_length}
use Rattle.job.specs.Step.{step_at, read_number}
use Rattle.job.specs.Steps.{Placed, placed, steps_from}
use Rattle.job.proofs.StepLaws.{read-step, read-end, read-moves, read-inside}
use Rattle.job.proofs.StepsLaws.{steps-of-step, steps-of-refused, steps-of-end, read_number-of-refused}
use Rattle.runner.specs.declared.types.Refusal.{Refusal}
use Rattle.runner.specs.declared.types.Stopped.{Stopped}
use Rattle.blit.specs.declared.types.Done.{Done}
use Rattle.runner.specs.Types.{Taken, Answer}
use Rattle.runner.specs.Effect.{step_effect, effect}
use Rattle.runner.specs.Run.{Machine, machine, effect_on, after, End, ended, run_steps, run_from, start_refusal, run}
use Rattle.runner.specs.Answer.{refusal_number, answer_number, left_by_step, left}
use Rattle.runner.proofs.EffectLaws.{step_effect-counts, step_effect-stays}

-- a refusal's number is never 0
pub refusal_number-positive : (why : Refusal) → refusal_number why ≡ 0 → ⊥
unfolding read_number given
refusal_number-positive (Refusal.Blit why) same = blits.refusal_number-positive why same
refusal_number-positive Refusal.JobLength same = omega arith
refusal_number-positive (Refusal.Step why) same = omega (arith, read_number-of-refused why)
refusal_number-positive Refusal.StoreOutside same = omega arith

-- a refused run answers with the number of its reason
pub answer_number-of-refused : (answer : Answer) (stopped : Stopped) (number : ℕ)
    → answer ≡ Err stopped → number ≡ refusal_number stopped.why → number ≡ answer_number answer
answer_number-of-refused answer stopped number same gives = rw same gives

-- the first step, done or refused
module _ (one : Placed) (rest : List Placed) (before : Machine) (outcome : Outcome) (gives : outcome ≡ effect_on before one.read) where
  pub run_steps-when-done : outcome.number ≡ 0 → run_steps (one ∷ rest) before ≡ run_steps rest (after before outcome)
  unfolding run_steps
  run_steps-when-done done = rw (← gives, eq-eqb outcome.number 0 done)

  pub run_steps-when-refused : (outcome.number ≡ 0 → ⊥) → run_steps (one ∷ rest) before ≡ ended outcome.number one.place before
  unfolding run_steps
  run_steps-when-refused refusal = rw (← gives, ne_eqb outcome.number 0 refusal)

-- the run of a job from a place on
abbrev pub run_at : (job : List ℕ) → (at : ℕ) → Machine → End
run_at job at before = run_from at (drop at job) before

module _ (job : List ℕ) (at : ℕ) (memory file : List ℕ) (done : Done) (whole : End) (so_far : run_at job at (machine memory file done.stored done.round) ≡ whole) where
  module _ (read : Read) (reads : read ≡ step_at job at) where
    pub run_at-of-end : (found : Option (Step × ℕ)) → read ≡ Ok found → found ≡ None → left (Ok done) memory file ≡ whole
    unfolding run_steps
    run_at-of-end found is same =
        sym (ap (λ (list : List Placed). run_steps list (machine memory file done.stored done.round)) (steps-of-end job at (read-end job at read reads found is same))) ∙ so_far

    -- what is no step is refused with its own number
    pub run_at-of-fault : (why : jobs.Refusal) → read ≡ Err why → left (Err (record { why = Refusal.Step why; place = at; done = done })) memory file ≡ whole
    unfolding effect refused read_number given
    run_at-of-fault why same =
        sym
        (run_steps-when-refused (placed at (Err why)) [] (machine memory file done.stored done.round)
        (refused (read_number (Err why)) memory file) refl (refusal_number-positive (Refusal.Step why)))
        ∙ sym (ap (λ (list : List Placed). run_steps list (machine memory file done.stored done.round)) (steps-of-refused job at why (sym reads ∙ same)))
        ∙ so_far

    -- a step that is taken, done or refused
    module _ (found : Option (Step × ℕ)) (is : read ≡ Ok found) (step : Step) (next : ℕ) (same : found ≡ Some (step, next)) (taken : Taken) (next_memory next_file : List ℕ)
        (gives : left_by_step taken next_memory next_file ≡ step_effect step memory file) where
      pub run_at-turn : (here : Done) → taken ≡ Ok here
          → run_at job next (machine next_memory next_file (done.stored + here.stored) (done.round || here.round)) ≡ whole
      unfolding effect
      run_at-turn here takes =
          let did : left_by_step (Ok here) next_memory next_file ≡ step_effect step memory file = rw takes at gives in
          sym
          (run_steps-when-done (placed at (Ok (Some (step, next)))) (steps_from 0 next (drop next job)) (machine memory file done.stored done.round)
          (left_by_step (Ok here) next_memory next_file) did refl)
          ∙ sym
          (ap (λ (list : List Placed). run_steps list (machine memory file done.stored done.round))
          (steps-of-step job at step next (read-step job at read reads found is step next same)))
          ∙ so_far

      pub run_at-of-refused : (why : Refusal) → taken ≡ Err why → left (Err (record { why = why; place = at; done = done })) next_memory next_file ≡ whole
      unfolding effect
      run_at-of-refused why refusal =
          let did : left_by_step (Err why) next_memory next_file ≡ step_effect step memory file = rw refusal at gives in
          let number : refusal_number why ≡ (step_effect step memory file).number = ap (λ (o : Outcome). o.number) did in
          let stays = step_effect-stays step memory file (λ none. refusal_number-positive why (number ∙ none)) in
          let memory-stays : next_memory ≡ memory = ap (λ (o : Outcome). o.memory) did ∙ stays.0 in
          let file-stays : next_file ≡ file = ap (λ (o : Outcome). o.file) did ∙ stays.1 in
          ap (λ (m : List ℕ). ended (refusal_number why) at (machine m next_file done.stored done.round)) memory-stays
          ∙ ap (λ (f : List ℕ). ended (refusal_number why) at (machine memory f done.stored done.round)) file-stays
          ∙ sym
          (run_steps-when-refused (placed at (Ok (Some (step, next)))) (steps_from 0 next (drop next job)) (machine memory file done.stored done.round)
          (left_by_step (Err why) next_memory next_file) did (refusal_number-positive why))
          ∙ sym
          (ap (λ (list : List Placed). run_steps list (machine memory file done.stored done.round))
          (steps-of-step job at step next (read-step job at read reads found is step next same)))
          ∙ so_far

-- the count has room: a step has a word at least, and stores 65,536 at most
module _ (job : List ℕ) (at : ℕ) (read : Read) (reads : read ≡ step_at job at) (found : Option (Step × ℕ)) (is : read ≡ Ok found)
    (step : Step) (next : ℕ) (same : found ≡ Some (step, next)) where
  module _ (stored : ℕ) (memory file next_memory next_file : List ℕ) (taken : Taken) (gives : left_by_step taken next_memory next_file ≡ step_effect step memory file)
      (here : Done) (takes : taken ≡ Ok here) (room : stored ≤ at * 65536) where
    count-le : here.stored ≤ 65536
    count-le =
        let did : left_by_step (Ok here) next_memory next_file ≡ step_effect step memory file = rw takes at gives in
        rw (ap (λ (o : Outcome). o.stored) did) (step_effect-counts step memory file)

    pub stored-le : stored + here.stored ≤ next * 65536
    stored-le = let few = count-le in let on = read-moves job at read reads found is step next same in omega arith

    pub stored-fits : length job ≤ job_most → Fits w32 (stored + here.stored)
    stored-fits short =
        let few = count-le in
        let on = read-moves job at read reads found is step next same in
        let inside = read-inside job at read reads found is step next same in
        record { fits = omega arith }

-- what is refused before the first step, one after the other
abbrev unstarted : Refusal → Answer
unstarted why = Err (record { why = why; place = 0; done = record { stored = 0; round = false } })

module _ (memory file job : List ℕ) (bad : Bool) (of-bad : bad ≡ memory_size (length memory)) (answer : Answer) where
  pub run-by-memory : bad ≡ true → answer ≡ unstarted (Refusal.Blit MemorySize) → left answer memory file ≡ run memory file job
  unfolding run start_refusal given
  run-by-memory holds same = rw (same, ← of-bad, holds)

  module _ (taken : bad ≡ false) (fine : Bool) (of-fine : fine ≡ accepted file) where
    pub run-by-file : not fine ≡ true → answer ≡ unstarted (Refusal.Blit RegisterFile) → left answer memory file ≡ run memory file job
    unfolding run start_refusal given
    run-by-file holds same = rw (same, ← of-bad, taken, ← of-fine, holds)

    module _ (accepts : not fine ≡ false) (long : Bool) (of-long : long ≡ job_length job) where
      pub run-by-length : long ≡ true → answer ≡ unstarted Refusal.JobLength → left answer memory file ≡ run memory file job
      unfolding run start_refusal given
      run-by-length holds same = rw (same, ← of-bad, taken, ← of-fine, accepts, ← of-long, holds)

      pub run-by-steps : (next_memory next_file : List ℕ) → long ≡ false
          → left answer next_memory next_file ≡ run_from 0 job (machine memory file 0 false)
          → left answer next_memory next_file ≡ run memory file job
      unfolding run start_refusal given
      run-by-steps next_memory next_file short gives = rw (← of-bad, taken, ← of-fine, accepts, ← of-long, short) gives
