-- Laws of what is refused before the first step: when it is, and that a part of a job is taken where the job is.
use Rattle.word.proofs.Base.{◌≡◌, refl, ℕ, ◌≤◌, arith, Bool, true, false, not, eq-eqb, ne_eqb, List, [], ◌∷◌, length}
use Rattle.word.specs.Choice.{◌when◌, given}
use Rattle.file.specs.File.{accepted}
use Rattle.word.specs.Memory.{memory_size}
use Rattle.job.specs.Length.{job_most, job_length}
use Rattle.job.proofs.LengthLaws.{job_length-when-short, job_length-of-short}
use Rattle.runner.specs.Run.{machine, ended, run_from, start_refusal, run}

-- the three rules, by their conditions
start_number : (bad fine long : Bool) → ℕ
start_number bad fine long = given (1 when bad ∷ 2 when not fine ∷ 3 when long ∷ [])

start_number-le : (bad fine long : Bool) → start_number bad fine long ≤ 3
unfolding start_number given
start_number-le true fine long = omega arith
start_number-le false false long = omega arith
start_number-le false true true = omega arith
start_number-le false true false = omega arith

start_number-none : (bad fine long : Bool) → start_number bad fine long ≡ 0 → (bad ≡ false) × (fine ≡ true) × (long ≡ false)
unfolding start_number given
start_number-none true fine long none = absurd (omega arith)
start_number-none false false long none = absurd (omega arith)
start_number-none false true true none = absurd (omega arith)
start_number-none false true false none = (refl, refl, refl)

start_number-one : (bad fine long : Bool) → start_number bad fine long ≡ 1 → bad ≡ true
unfolding start_number given
start_number-one true fine long same = refl
start_number-one false false long same = absurd (omega arith)
start_number-one false true true same = absurd (omega arith)
start_number-one false true false same = absurd (omega arith)

start_number-two : (bad fine long : Bool) → start_number bad fine long ≡ 2 → (bad ≡ false) × (fine ≡ false)
unfolding start_number given
start_number-two true fine long same = absurd (omega arith)
start_number-two false false long same = (refl, refl)
start_number-two false true true same = absurd (omega arith)
start_number-two false true false same = absurd (omega arith)

start_number-three : (bad fine long : Bool) → start_number bad fine long ≡ 3 → (bad ≡ false) × (fine ≡ true) × (long ≡ true)
unfolding start_number given
start_number-three true fine long same = absurd (omega arith)
start_number-three false false long same = absurd (omega arith)
start_number-three false true true same = (refl, refl, refl)
start_number-three false true false same = absurd (omega arith)

module _ (memory file job : List ℕ) where
  pub start_refusal-le : start_refusal memory file job ≤ 3
  unfolding start_refusal start_number
  start_refusal-le = start_number-le (memory_size (length memory)) (accepted file) (job_length job)

  pub start_refusal-is-none : start_refusal memory file job ≡ 0
      → (memory_size (length memory) ≡ false) × (accepted file ≡ true) × (job_length job ≡ false)
  unfolding start_refusal start_number
  start_refusal-is-none none = start_number-none (memory_size (length memory)) (accepted file) (job_length job) none

  pub start_refusal-is-one : start_refusal memory file job ≡ 1 → memory_size (length memory) ≡ true
  unfolding start_refusal start_number
  start_refusal-is-one same = start_number-one (memory_size (length memory)) (accepted file) (job_length job) same

  pub start_refusal-is-two : start_refusal memory file job ≡ 2 → (memory_size (length memory) ≡ false) × (accepted file ≡ false)
  unfolding start_refusal start_number
  start_refusal-is-two same = start_number-two (memory_size (length memory)) (accepted file) (job_length job) same

  pub start_refusal-is-three : start_refusal memory file job ≡ 3
      → (memory_size (length memory) ≡ false) × (accepted file ≡ true) × (job_length job ≡ true)
  unfolding start_refusal start_number
  start_refusal-is-three same = start_number-three (memory_size (length memory)) (accepted file) (job_length job) same

  pub start_refusal-when-memory : memory_size (length memory) ≡ true → start_refusal memory file job ≡ 1
  unfolding start_refusal given
  start_refusal-when-memory bad = rw bad

  pub start_refusal-when-file : memory_size (length memory) ≡ false → accepted file ≡ false → start_refusal memory file job ≡ 2
  unfolding start_refusal given
  start_refusal-when-file taken bad = rw (taken, bad)

  pub start_refusal-when-length : memory_size (length memory) ≡ false → accepted file ≡ true → job_length job ≡ true
      → start_refusal memory file job ≡ 3
  unfolding start_refusal given
  start_refusal-when-length taken fine long = rw (taken, fine, long)

  -- a run that starts takes its steps; any other is refused at once
  pub run-when-started : start_refusal memory file job ≡ 0 → run memory file job ≡ run_from 0 job (machine memory file 0 false)
  unfolding run
  run-when-started none = rw (eq-eqb (start_refusal memory file job) 0 none)

  pub run-when-unstarted : (start_refusal memory file job ≡ 0 → ⊥)
      → run memory file job ≡ ended (start_refusal memory file job) 0 (machine memory file 0 false)
  unfolding run
  run-when-unstarted some = rw (ne_eqb (start_refusal memory file job) 0 some)

  -- a part of a job, and any job of the length allowed
  pub start_refusal-of-part : (part : List ℕ) → length part ≤ length job → start_refusal memory file job ≡ 0
      → start_refusal memory file part ≡ 0
  unfolding start_refusal given
  start_refusal-of-part part fits none =
      let starts = start_refusal-is-none none in
      let short : length job ≤ job_most = job_length-when-short job (job_length job) refl starts.2 in
      rw (starts.0, starts.1, job_length-of-short part (omega arith))

  pub start_refusal-of-other : (other : List ℕ) → length job ≤ job_most → length other ≤ job_most
      → start_refusal memory file job ≡ start_refusal memory file other
  unfolding start_refusal
  start_refusal-of-other other short fits =
      rw (job_length-of-short job short, job_length-of-short other fits)
