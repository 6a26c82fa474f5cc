-- Laws of places and lengths: a job has at most 4,096 words and a folded job too, so that 32 bits hold them. And what the entries
-- tell, by the answers of the calls.
use Rattle.std.specs.Prelude.{if◌then◌else◌, Result}
use Rattle.word.proofs.Base.{◌≡◌, refl, ap, ℕ, zero, suc, ◌+◌, ◌<◌, ◌≤◌, dec_lt, arith, Bool, true, false, eqb, eq-eqb}
use Rattle.word.proofs.Base.{ne_eqb, List, [], ◌∷◌, length}
use Rattle.word.specs.Choice.{◌when◌, given}
use Rattle.word.specs.Memory.{memory_size}
use Rattle.job.specs.Step.{front, read_number}
use Rattle.job.specs.Length.{job_length}
use Rattle.job.specs.Steps.{Placed, behind, steps_from, steps}
use Rattle.job.proofs.LengthLaws.{job_length-when-short}
use Rattle.job.proofs.StepsLaws.{behind-either}
use Rattle.runner.specs.Run.{Machine, machine, effect_on, after, End, ended, run_steps, start_refusal, run}
use Rattle.runner.proofs.StartLaws.{start_refusal-is-none, run-when-started, run-when-unstarted}
use Rattle.widen.specs.Widen as widenings
use Rattle.widen.specs.Widen.{widening}
use Rattle.playfield.specs.Playfield.{Playfield}
use Rattle.picture.specs.Picture as pictures
use Rattle.picture.specs.Picture.{picture}
use Rattle.copper.specs.declared.types.Answer as copper_answer
use Rattle.instruction.specs.Effect as coppers
use Rattle.copper.specs.Answer as frames
use Rattle.copper.specs.Frame.{stopped, told, frame, frame_from}
use Rattle.refusal.specs.declared.types.Refusal as blit_refusal
use Rattle.blit.specs.declared.types.Done as blit_done
use Rattle.blit.specs.declared.types.Told as blit_told_type
use Rattle.blit.specs.Blit as blits
use Rattle.blit.specs.Blit.{blit}
use Rattle.runner.specs.declared.types.Told as run_told_type
use Rattle.runner.specs.Types.{Answer}
use Rattle.runner.specs.Answer as runs
use Rattle.folder.specs.declared.types.Told as fold_told_type
use Rattle.folder.specs.Types as folds-types
use Rattle.folder.specs.Answer as folds
use Rattle.folder.specs.Fold.{fold}
use Rattle.folder.specs.Kept.{kept}
use Rattle.folder.specs.Folding as foldings
use Rattle.folder.specs.Folding.{Folding, refused, done, too_long, by_step, folding}
use Rattle.folder.proofs.FoldingLaws.{too_long-when-few}
use Rattle.desk.specs.Told.{yes_no, blit_told, run_told, fold_told}

-- a run is refused at a word of its job
run_steps-place-le : (skip at : ℕ) (words : List ℕ) (before : Machine)
    → (run_steps (steps_from skip at words) before).place ≤ at + length words
unfolding run_steps steps_from
run_steps-place-le skip at [] before = omega arith
run_steps-place-le zero at (first ∷ rest) before =
    by-test
    (behind-either (λ list. (run_steps list on).place ≤ at + 1 + length rest) (front at (first ∷ rest)) (λ skip. steps_from skip (at + 1) rest)
    (λ skip. run_steps-place-le skip (at + 1) rest on) (omega arith))
    (eqb (effect_on before (front at (first ∷ rest))).number 0)
  where
    on : Machine
    on = after before (effect_on before (front at (first ∷ rest)))

    later : End
    later = run_steps (behind (front at (first ∷ rest)) (λ skip. steps_from skip (at + 1) rest)) on

    by-test : later.place ≤ at + 1 + length rest → (fine : Bool)
        → (if fine then later else ended (effect_on before (front at (first ∷ rest))).number at before).place
        ≤ at + suc (length rest)
    by-test inside true = omega (arith, inside)
    by-test inside false = omega arith
run_steps-place-le (suc skip) at (word ∷ rest) before = omega (arith, run_steps-place-le skip (at + 1) rest before)

run-place-le : (memory file job : List ℕ) → (run memory file job).place ≤ 4096
run-place-le memory file job = by-start (dec_lt 0 (start_refusal memory file job))
  where
    by-start : Dec (0 < start_refusal memory file job) → (run memory file job).place ≤ 4096
    by-start (yes some) =
        let same = ap (λ (end : End). end.place) (run-when-unstarted memory file job (λ none. omega (arith, none, some))) in
        omega (arith, same)
    by-start (no none) =
        let begins : start_refusal memory file job ≡ 0 = omega (arith, none) in
        let starts = start_refusal-is-none memory file job begins in
        let short : length job ≤ 4096 = job_length-when-short job (job_length job) refl starts.2 in
        let same = ap (λ (end : End). end.place) (run-when-started memory file job begins) in
        omega (arith, same, short, run_steps-place-le 0 0 job (machine memory file 0 false))

-- a folding is refused at a word of its job
by_step-place-at-end : (words : List ℕ) (round : Bool) (out : List ℕ) (at : ℕ) → (by_step words round out []).place ≤ at
unfolding by_step
by_step-place-at-end words round out at = by-test (too_long words out)
  where
    by-test : (long : Bool) → (if long then refused 11 0 out else done words round out).place ≤ at
    by-test true = omega arith
    by-test false = omega arith

by_step-place-le : (words : List ℕ) (round : Bool) (out : List ℕ) (skip at : ℕ) (job : List ℕ)
    → (by_step words round out (steps_from skip at job)).place ≤ at + length job
unfolding by_step steps_from
by_step-place-le words round out skip at [] = by_step-place-at-end words round out (at + 0)
by_step-place-le words round out zero at (first ∷ rest) =
    by-test
    (behind-either (λ list. (by_step words round out list).place ≤ at + 1 + length rest) (front at (first ∷ rest)) (λ skip. steps_from skip (at + 1) rest)
    (λ skip. by_step-place-le words round out skip (at + 1) rest) (by_step-place-at-end words round out (at + 1 + length rest)))
    (eqb (read_number (front at (first ∷ rest))) 0)
  where
    later : Folding
    later = by_step words round out (behind (front at (first ∷ rest)) (λ skip. steps_from skip (at + 1) rest))

    by-test : later.place ≤ at + 1 + length rest → (fine : Bool)
        → (if fine then later else refused (read_number (front at (first ∷ rest))) at out).place ≤ at + suc (length rest)
    by-test inside true = omega (arith, inside)
    by-test inside false = omega arith
by_step-place-le words round out (suc skip) at (word ∷ rest) = omega (arith, by_step-place-le words round out skip (at + 1) rest)

-- a folding's length is 0 or that of a folded job
by_step-long-le : (words : List ℕ) (round : Bool) (out : List ℕ) (list : List Placed) → (by_step words round out list).long ≤ 4096
unfolding by_step
by_step-long-le words round out [] = by-test (too_long words out) refl
  where
    by-test : (long : Bool) → too_long words out ≡ long → (if long then refused 11 0 out else done words round out).long ≤ 4096
    by-test true is = omega arith
    by-test false is = too_long-when-few words out is
by_step-long-le words round out (one ∷ rest) =
    by-test (by_step-long-le words round out rest) (eqb (read_number one.read) 0)
  where
    by-test : (by_step words round out rest).long ≤ 4096 → (fine : Bool)
        → (if fine then by_step words round out rest else refused (read_number one.read) one.place out).long ≤ 4096
    by-test inside true = inside
    by-test inside false = omega arith

module _ (n : ℕ) (job out : List ℕ) where
  few-of-start : foldings.start_refusal n job ≡ 0 → length job ≤ 4096
  unfolding foldings.start_refusal given
  few-of-start none = by-rules (memory_size n) (job_length job) refl none
    where
      by-rules : (bad long : Bool) → long ≡ job_length job → given (1 when bad ∷ 3 when long ∷ []) ≡ 0 → length job ≤ 4096
      by-rules true long is none = absurd (omega arith)
      by-rules false true is none = absurd (omega arith)
      by-rules false false is none = job_length-when-short job false is refl

  folding-le : ((folding n job out).place ≤ 4096) × ((folding n job out).long ≤ 4096)
  unfolding folding
  folding-le = by-start (dec_lt 0 (foldings.start_refusal n job))
    where
      by-start : Dec (0 < foldings.start_refusal n job) → ((folding n job out).place ≤ 4096) × ((folding n job out).long ≤ 4096)
      by-start (yes some) = rw (ne_eqb (foldings.start_refusal n job) 0 (λ none. omega (arith, none, some))) (omega arith, omega arith)
      by-start (no none) =
          let begins : foldings.start_refusal n job ≡ 0 = omega (arith, none) in
          rw (eq-eqb (foldings.start_refusal n job) 0 begins)
          (omega (arith, few-of-start begins, by_step-place-le (fold n job) (kept n job) out 0 0 job), by_step-long-le (fold n job) (kept n job) out (steps job))

-- what the entries tell, by the answers of the calls
module _ (memory file job next end : List ℕ) (answer : Answer) (gives : runs.left answer next end ≡ run memory file job)
    (ran : run_told_type.Told) (tells : ran ≡ runs.told answer) where
  pub run-place-lt : ran.place < 4294967296
  run-place-lt =
      omega (arith, ap (λ (t : run_told_type.Told). t.place) tells, ap (λ (end : End). end.place) gives, run-place-le memory file job)

  pub run-of-answer : (says : ℕ) → says ≡ yes_no ran.round
      → record { number = ran.number; place = ran.place; stored = ran.stored; round = says; memory = next; file = end } ≡ run_told (run memory file job)
  run-of-answer says is-says = rw (is-says, tells) (ap run_told gives)

module _ (n : ℕ) (job out next : List ℕ) (answer : folds-types.Answer) (gives : folds.left answer next ≡ folding n job out)
    (folded : fold_told_type.Told) (tells : folded ≡ folds.told answer) where
  pub folding-place-lt : folded.place < 4294967296
  folding-place-lt =
      omega (arith, ap (λ (t : fold_told_type.Told). t.place) tells, ap (λ (end : Folding). end.place) gives, (folding-le n job out).0)

  pub folding-long-lt : folded.length < 4294967296
  folding-long-lt =
      omega (arith, ap (λ (t : fold_told_type.Told). t.length) tells, ap (λ (end : Folding). end.long) gives, (folding-le n job out).1)

  pub folding-of-answer : (says : ℕ) → says ≡ yes_no folded.round
      → record { number = folded.number; place = folded.place; long = folded.length; round = says; out = next } ≡ fold_told (folding n job out)
  folding-of-answer says is-says = rw (is-says, tells) (ap fold_told gives)

pub widening-of-answer : (old target next : List ℕ) (number : ℕ) (answer : widenings.Answer)
    → number ≡ widenings.answer_number answer → widenings.left answer next ≡ widening old target
    → record { number = number; target = next } ≡ widening old target
widening-of-answer old target next number answer is_number gives = rw is_number gives

pub picture-of-answer : (memory file : List ℕ) (field : Playfield) (out next : List ℕ) (number : ℕ) (answer : pictures.Answer)
    → number ≡ pictures.answer_number answer → pictures.left answer next ≡ picture memory file field out
    → record { number = number; out = next } ≡ picture memory file field out
picture-of-answer memory file field out next number answer is_number gives = rw is_number gives

pub blit-of-answer : (memory file next end : List ℕ) (size round : ℕ) (numbers : blit_told_type.Told) (answer : Result blit_done.Done blit_refusal.Refusal)
    → numbers ≡ blits.told answer → round ≡ yes_no numbers.round → blits.left answer next end ≡ blit memory file size
    → record { number = numbers.number; stored = numbers.stored; round = round; memory = next; file = end } ≡ blit_told (blit memory file size)
blit-of-answer memory file next end size round numbers answer tells is-round gives = rw (is-round, tells) (ap blit_told gives)

-- a frame's answer, told with the beam's place and without it
module _ (memory file next end : List ℕ) (start lent why number : ℕ) (answer : copper_answer.Answer)
    (is-why : why ≡ frames.why_number answer.why) (is_number : number ≡ frames.answer_number answer.why) where
  pub frame_from-of-answer : (beam : ℕ) → frames.left answer next end ≡ frame_from memory file beam start lent
      → stopped why number answer.done (coppers.moment next end answer.here.beam answer.here.word) ≡ frame_from memory file beam start lent
  frame_from-of-answer beam gives = rw (is-why, is_number) gives

  pub frame-of-answer : frames.left answer next end ≡ frame memory file start lent
      → record { why = why; number = number; done = answer.done; word = answer.here.word; memory = next; file = end }
      ≡ told (frame memory file start lent)
  frame-of-answer gives = rw (is-why, is_number) (ap told gives)
