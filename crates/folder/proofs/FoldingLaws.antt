-- Laws of a folding: what is refused before the first step, and what is handed out of one that is done.
use Rattle.word.proofs.Base.{◌≡◌, sym, ap, ◌∙◌, ℕ, ◌≤◌, arith, Bool, true, false, not, leb, List, ◌++◌, length, take}
use Rattle.word.proofs.Base.{drop}
use lib.Seq.{take_at}
use Rattle.word.specs.Choice.{given}
use Rattle.word.proofs.ChoiceLaws.{or_right, within-when-passed}
use Rattle.word.specs.Memory.{memory_size}
use Rattle.job.specs.Step.{read_number}
use Rattle.job.proofs.StepsLaws.{read_number-of-refused}
use Rattle.job.specs.Steps.{steps}
use Rattle.job.specs.Length.{job_most, job_length}
use Rattle.std.specs.Prelude.{Ok, Err}
use Rattle.folder.specs.declared.types.Refusal.{Refusal}
use Rattle.folder.specs.declared.types.Done.{Done}
use Rattle.folder.specs.declared.types.Stopped.{Stopped}
use Rattle.folder.specs.Types.{Answer}
use Rattle.folder.specs.Fold.{fold}
use Rattle.folder.specs.Kept.{kept}
use Rattle.folder.specs.Folding.{done, start_refusal, too_long, by_step, folding}
use Rattle.folder.specs.Answer.{refusal_number, left}
use Rattle.folder.specs.Inner.Folded.{Fits, Answers, Folded}
use Rattle.word.proofs.LaidLaws.{laid-in-front, laid-as-long}

-- a refusal's number is never 0
pub refusal_number-positive : (why : Refusal) → refusal_number why ≡ 0 → ⊥
unfolding read_number given
refusal_number-positive Refusal.MemorySize same = omega arith
refusal_number-positive Refusal.JobLength same = omega arith
refusal_number-positive (Refusal.Step why) same = omega (arith, read_number-of-refused why)
refusal_number-positive Refusal.TooLong same = omega arith

pub too_long-when-few : (words out : List ℕ) → too_long words out ≡ false → length words ≤ job_most
unfolding too_long
too_long-when-few words out is =
    within-when-passed (length words) job_most (or_right (not (leb (length words) (length out))) (not (leb (length words) job_most)) is)

-- what is handed out has room
module _ (n : ℕ) (job out start run : List ℕ) (answer : Answer) (folded : Folded n job out start answer run)
    (told : Done) (same : answer ≡ Ok told) where
  when-done : Fits (fold n job) out told.length × (by_step (fold n job) (kept n job) out (steps job) ≡ done (fold n job) told.round out)
  unfolding Answers
  when-done = rw same at folded.answers

  pub room-when-done : told.length ≤ length out
  room-when-done = when-done.0.room

  pub run-when-done : length start ≡ job_most → told.length ≤ length run
  run-when-done room = omega (arith, when-done.0.few, laid-as-long (fold n job) 0 job_most start run folded.lays room)

-- what is refused before the first step, one after the other
module _ (n : ℕ) (job out : List ℕ) (bad : Bool) (of-bad : bad ≡ memory_size n) (answer : Answer) where
  pub folding-by-memory : bad ≡ true → answer ≡ Err (record { why = Refusal.MemorySize; place = 0 }) → left answer out ≡ folding n job out
  unfolding folding start_refusal given
  folding-by-memory holds same = rw (same, ← of-bad, holds)

  module _ (taken : bad ≡ false) (long : Bool) (of-long : long ≡ job_length job) where
    pub folding-by-length : long ≡ true → answer ≡ Err (record { why = Refusal.JobLength; place = 0 }) → left answer out ≡ folding n job out
    unfolding folding start_refusal given
    folding-by-length holds same = rw (same, ← of-bad, taken, ← of-long, holds)

    by-steps : long ≡ false → by_step (fold n job) (kept n job) out (steps job) ≡ folding n job out
    unfolding folding start_refusal given
    by-steps short = rw (← of-bad, taken, ← of-long, short)

    module _ (short : long ≡ false) (start run : List ℕ) (folded : Folded n job out start answer run) where
      pub folding-by-refused : (stopped : Stopped) → answer ≡ Err stopped → left answer out ≡ folding n job out
      unfolding Answers
      folding-by-refused stopped same = rw same (sym (rw same at folded.answers) ∙ by-steps short)

      pub folding-by-done : (told : Done) (next : List ℕ) → length start ≡ job_most → answer ≡ Ok told
          → next ≡ take told.length run ++ drop told.length out → left (Ok told) next ≡ folding n job out
      folding-by-done told next room same hands =
          let ends = when-done n job out start run answer folded told same in
          let counts = ends.0.counts in
          let front : take told.length run ≡ fold n job =
          ap (λ (list : List ℕ). take told.length list) (folded.lays ∙ laid-in-front (fold n job) start (omega (arith, ends.0.few)))
          ∙ take_at (fold n job) (drop (length (fold n job)) start) told.length (sym counts) in
          rw (hands, front, counts) (sym ends.1 ∙ by-steps short)
