-- Demand 3: step by step the folded job and the original leave the same machine, and what the folder knows agrees with it.
use Rattle.std.specs.Prelude.{if◌then◌else◌, Ok, Some, Option, None}
use Rattle.word.proofs.Base.{◌≡◌, refl, sym, ap, subst, ◌∙◌, ℕ, zero, suc, ◌+◌, arith, Bool, true, false}
use Rattle.word.proofs.Base.{List, [], ◌∷◌, ◌++◌, length, get_or, set, length-set}
use lib.ListN.{replicate}
use Rattle.word.specs.declared.types.Pointer.{Pointer}
use Rattle.word.specs.Choice.{given}
use Rattle.word.specs.Pointer.{high, low}
use Rattle.file.specs.File.{accepted}
use Rattle.file.specs.Places.{blitter_length, pointer_d, flag, file_length}
use Rattle.file.proofs.FileLaws.{accepted-has-length}
use Rattle.area.specs.Setup.{setup}
use Rattle.refusal.specs.Refusal.{step_refusal}
use Rattle.word.specs.Memory.{memory_size}
use Rattle.blit.specs.Blit.{Outcome, blit_step}
use Rattle.job.specs.declared.types.Step.{Step}
use Rattle.job.specs.Types.{Read}
use Rattle.job.specs.Step.{operands, found, front}
use Rattle.job.specs.Steps.{Placed, placed, steps_from, steps}
use Rattle.runner.specs.Effect.{step_effect, effect}
use Rattle.job.specs.Length.{job_length}
use Rattle.job.proofs.LengthLaws.{job_length-of-short}
use Rattle.runner.proofs.EffectLaws.{step_effect-of-blit}
use Rattle.runner.specs.Run.{Machine, machine, after, run_steps, run_from, start_refusal, run}
use Rattle.knowledge.specs.Knowledge.{known_at, nothing, numbers}
use Rattle.knowledge.proofs.KnowledgeLaws.{nothing-length}
use Rattle.stores.specs.Stores.{stores, all_zero, final_d}
use Rattle.stores.proofs.OnlyDLaws.{OnlyD}
use Rattle.settled.specs.Words.{settled_words}
use Rattle.settled.proofs.WordsLaws.{after_settled, settled_words-run, blit_step-number, blit_step-file}
use Rattle.settled.proofs.AgreeLaws.{Agree, uses-alike, step_refusal-alike, final_d-alike, settled_words-alike}
use Rattle.learning.specs.Learn.{written, forgotten, moved_d}
use Rattle.settled.specs.Settled.{settled}
use Rattle.folder.specs.Fold.{becomes, learned, raw_words, piece, learned_after, fold_steps, fold_from, fold}
use Rattle.demands.proofs.AgreesLaws.{Agrees, agrees-of-set, agrees-of-flag}
use Rattle.demands.proofs.SettledKnownLaws.{settled-is-lawful, settled-uses-d, settled-agrees, settled-goes_round}
use Rattle.demands.proofs.FoldedJobLaws.{Done, folding-when-done, folded_job-is-fold}
use Rattle.demands.proofs.GoodStepLaws.{Good, steps-are-good}
use Rattle.demands.specs.DemandThree.{DemandThree}
use Rattle.demands.proofs.StepRunLaws.{SameButPlace, copied_runs}
use Rattle.demands.proofs.StandsLaws.{Stands, after-lengths, stands-after-register, stands-after-store, stands-after-flag, stands-after-kept}

-- a blit that is settled
module _ (n : ℕ) (known : List (Option ℕ)) (before : Machine) (stands : Stands n known before) (size : ℕ) (holds : settled n known size ≡ true) where
  only : OnlyD (setup (numbers known)).uses
  only = settled-uses-d n known size holds

  agree : Agree (numbers known) before.file
  agree = settled-agrees n known size holds before.file stands.long stands.agrees

  only_here : OnlyD (setup before.file).uses
  only_here = uses-alike (numbers known) before.file agree only

  lawful : step_refusal (length before.memory) before.file size ≡ 0
  lawful =
      ap (λ (words : ℕ). step_refusal words before.file size) stands.memory
      ∙ sym (step_refusal-alike (numbers known) before.file agree n size only)
      ∙ settled-is-lawful n known size holds

  settled-runs : (at place next : ℕ) (more : List ℕ) (rest : List Placed)
      → SameButPlace (run_from (after_settled at size) more (after before (step_effect (Step.Size size) before.memory before.file)))
      (run_steps rest (after before (step_effect (Step.Size size) before.memory before.file)))
      → SameButPlace (run_from at (settled_words (numbers known) size ++ more) before) (run_steps (placed place (Ok (Some (Step.Size size, next))) ∷ rest) before)
  unfolding run_steps effect
  settled-runs at place next more rest later =
      rw (
        settled_words-alike (numbers known) before.file agree size only,
        settled_words-run before.memory before.file size only_here lawful at more before.stored before.round
            (settled-goes_round n known size holds before.file stands.long stands.agrees),
        step_effect-of-blit size before.memory before.file,
        blit_step-number before.memory before.file size lawful,
      )
      (rw (step_effect-of-blit size before.memory before.file) at later)

  stands-after-settled : (next : ℕ)
      → Stands n (moved_d (final_d (numbers known) size) known) (after before (step_effect (Step.Size size) before.memory before.file))
  unfolding moved_d
  stands-after-settled next =
      let to : Pointer = final_d (numbers known) size in
      let high-known : List (Option ℕ) = set known pointer_d (Some (high to)) in
      let long : length high-known ≡ blitter_length = length-set known pointer_d (Some (high to)) ∙ stands.long in
      let long-too : length (set high-known (pointer_d + 1) (Some (low to))) ≡ blitter_length = length-set high-known (pointer_d + 1) (Some (low to)) ∙ long in
      let full : length (set before.file pointer_d (high to)) ≡ file_length = length-set before.file pointer_d (high to) ∙ stands.file in
      let one : Agrees high-known (set before.file pointer_d (high to)) =
      agrees-of-set known before.file pointer_d (high to) stands.long stands.file stands.agrees in
      let two : Agrees (set high-known (pointer_d + 1) (Some (low to))) (set (set before.file pointer_d (high to)) (pointer_d + 1) (low to)) =
      agrees-of-set high-known (set before.file pointer_d (high to)) (pointer_d + 1) (low to) long full one in
      let leaves : (blit_step before.memory before.file size).file
      ≡ set (set (set before.file pointer_d (high to)) (pointer_d + 1) (low to)) flag (if all_zero (stores before.file size) then 1 else 0) =
      blit_step-file before.memory before.file size only_here lawful
      ∙ ap (λ (at : Pointer). set (set (set before.file pointer_d (high at)) (pointer_d + 1) (low at)) flag (if all_zero (stores before.file size) then 1 else 0))
      (sym (final_d-alike (numbers known) before.file agree size)) in
      after-lengths n known before stands (Step.Size size) next (moved_d to known) long-too
      (subst (λ (end : Outcome). Agrees (moved_d to known) end.file) (sym (step_effect-of-blit size before.memory before.file))
      (subst (Agrees (moved_d to known)) (sym leaves)
      (agrees-of-flag (moved_d to known) (set (set before.file pointer_d (high to)) (pointer_d + 1) (low to)) _ long-too two)))

-- one step of the job, and the rest
simulate-step : (n : ℕ) (job : List ℕ) (known : List (Option ℕ)) (at place next : ℕ) (step : Step) (rest : List Placed) (before : Machine)
    → Stands n known before
    → length (raw_words job place step) ≡ 1 + operands step
    → ((to : ℕ) → front to (raw_words job place step) ≡ found to step)
    → ((to : ℕ) (learned : List (Option ℕ)) (on : Machine) → Stands n learned on → SameButPlace (run_from to (fold_steps n learned job rest) on) (run_steps rest on))
    → SameButPlace (run_from at (becomes n known step (raw_words job place step) ++ fold_steps n (learned n known step) job rest) before)
    (run_steps (placed place (Ok (Some (step, next))) ∷ rest) before)
unfolding becomes learned
simulate-step n job known at place next (Step.Register to value) rest before stands long decodes later =
    copied_runs at place next (raw_words job place (Step.Register to value)) _ (Step.Register to value) rest before long decodes
    (later _ (written to value known) _ (stands-after-register n known before stands to value next))
simulate-step n job known at place next (Step.Store to value) rest before stands long decodes later =
    copied_runs at place next (raw_words job place (Step.Store to value)) _ (Step.Store to value) rest before long decodes
    (later _ known _ (stands-after-store n known before stands to value next))
simulate-step n job known at place next (Step.Flag value) rest before stands long decodes later =
    copied_runs at place next (raw_words job place (Step.Flag value)) _ (Step.Flag value) rest before long decodes
    (later _ known _ (stands-after-flag n known before stands value next))
simulate-step n job known at place next (Step.Size size) rest before stands long decodes later = by-test (settled n known size) refl
  where
    by-test : (test : Bool) → settled n known size ≡ test
        → SameButPlace
        (run_from at ((if test then settled_words (numbers known) size else raw_words job place (Step.Size size))
        ++ fold_steps n (if test then moved_d (final_d (numbers known) size) known else forgotten known) job rest) before)
        (run_steps (placed place (Ok (Some (Step.Size size, next))) ∷ rest) before)
    by-test true holds =
        settled-runs n known before stands size holds at place next _ rest (later _ _ _ (stands-after-settled n known before stands size holds next))
    by-test false keeps =
        copied_runs at place next (raw_words job place (Step.Size size)) _ (Step.Size size) rest before long decodes
        (later _ (forgotten known) _ (stands-after-kept n known before stands size next))

-- all steps of the job
pub simulate : (n : ℕ) (job : List ℕ) (list : List Placed) → Good job list → (at : ℕ) (known : List (Option ℕ)) (before : Machine) → Stands n known before
    → SameButPlace (run_from at (fold_steps n known job list) before) (run_steps list before)
unfolding Good fold_steps piece learned_after run_steps steps_from
simulate n job [] good at known before stands = record { numbers = refl; machines = refl }
simulate n job (one ∷ rest) good at known before stands =
    subst (λ (read : Read). SameButPlace (run_from at (piece n known job one.place read ++ fold_steps n (learned_after n known read) job rest) before)
    (run_steps (placed one.place read ∷ rest) before))
    (sym good.0.reads)
    (simulate-step n job known at one.place good.0.next good.0.step rest before stands good.0.long good.0.decodes
    (λ to learned on stand. simulate n job rest good.1 to learned on stand))

get_or-of-nothing : (n place : ℕ) → known_at (replicate n None) place ≡ None
get_or-of-nothing zero place = refl
get_or-of-nothing (suc n) zero = refl
get_or-of-nothing (suc n) (suc place) = get_or-of-nothing n place

-- nothing known agrees with every file
nothing-agrees : (file : List ℕ) → Agrees nothing file
unfolding Agrees
nothing-agrees file place value is = let none : get_or nothing place None ≡ None = get_or-of-nothing blitter_length place in let n : ◌≡◌ {A = ℕ} 0 1 = cc in absurd (omega arith)

-- none of 1 to 3 applies to a run
start-of-none : (memory file job : List ℕ) → memory_size (length memory) ≡ false → accepted file ≡ true → job_length job ≡ false
    → run memory file job ≡ run_from 0 job (machine memory file 0 false)
unfolding run start_refusal given
start-of-none memory file job room fine short = rw (room, fine, short)

pub demand-three : DemandThree
unfolding fold fold_from
demand-three n job out memory file accepts sized fine =
    let is : Done n job out = folding-when-done n job out accepts in
    let room : memory_size (length memory) ≡ false = ap memory_size sized ∙ is.room in
    let good : Good job (steps job) = steps-are-good job 0 0 job refl is.clean in
    let stands : Stands n nothing (machine memory file 0 false) =
    record { memory = sized; file = accepted-has-length file fine; long = nothing-length; agrees = nothing-agrees file } in
    let alike : SameButPlace (run_from 0 (fold n job) (machine memory file 0 false)) (run_from 0 job (machine memory file 0 false)) =
    simulate n job (steps job) good 0 nothing (machine memory file 0 false) stands in
    let this : run memory file (fold n job) ≡ run_from 0 (fold n job) (machine memory file 0 false) = start-of-none memory file (fold n job) room fine (job_length-of-short (fold n job) is.fits) in
    let that : run memory file job ≡ run_from 0 job (machine memory file 0 false) = start-of-none memory file job room fine is.short in
    let machines = alike.machines in
    let numbers = alike.numbers in
    rw (folded_job-is-fold n job out is, this, that) (record { memory = cc; file = cc; stored = cc; round = cc; number = cc })
