-- Laws of a folding that is done: no number is told for any step, and the folded job stands in the front of the output run.
use Rattle.std.specs.Prelude.{if◌then◌else◌}
use Rattle.word.proofs.Base.{◌≡◌, refl, ap, ◌∙◌, ℕ, ◌≤◌, arith, Bool, true, false, ◌||◌, not, eqb, leb, eqb-true}
use Rattle.word.proofs.Base.{eqb-false, leb-true, List, [], ◌∷◌, length, take, drop}
use lib.Seq.{take-append_seam}
use Rattle.word.specs.Choice.{given}
use Rattle.word.specs.Memory.{memory_size}
use Rattle.job.specs.Step.{read_number}
use Rattle.job.specs.Steps.{Placed, steps}
use Rattle.job.specs.Length.{job_most, job_length}
use Rattle.folder.specs.Fold.{fold}
use Rattle.folder.specs.Kept.{kept}
use Rattle.folder.specs.Folding.{Folding, refused, done, start_refusal, too_long, by_step, folding}
use Rattle.demands.specs.DemandThree.{folded_job}

-- no number is told for any of them
unfoldable pub Clean : List Placed → Type 0
Clean [] = Unit
Clean (one ∷ rest) = (read_number one.read ≡ 0) × Clean rest

-- what is given for a job's steps, where it is a folding
ByStep : (words : List ℕ) → (round : Bool) → (out : List ℕ) → List Placed → Folding → Type 0
ByStep words round out list end = Clean list × (length words ≤ job_most) × (end ≡ done words round out)

by_step-when-done : (words : List ℕ) (round : Bool) (out : List ℕ) (list : List Placed) → (by_step words round out list).number ≡ 0 → ByStep words round out list (by_step words round out list)
unfolding ByStep by_step too_long Clean
by_step-when-done words round out [] whole = by-test (leb (length words) (length out)) (leb (length words) job_most) refl whole
  where
    by-test : (room short : Bool) → leb (length words) job_most ≡ short
        → (if not room || not short then refused 11 0 out else done words round out).number ≡ 0
        → ByStep words round out [] (if not room || not short then refused 11 0 out else done words round out)
    by-test true true is whole = (tt, leb-true (length words) job_most is, refl)
    by-test false true is wrong = absurd (omega arith)
    by-test true false is wrong = absurd (omega arith)
    by-test false false is wrong = absurd (omega arith)
by_step-when-done words round out (one ∷ rest) whole =
    by_number (λ later. by_step-when-done words round out rest later) (eqb (read_number one.read) 0) refl whole
  where
    by_number : ((by_step words round out rest).number ≡ 0 → ByStep words round out rest (by_step words round out rest)) → (none : Bool)
        → eqb (read_number one.read) 0 ≡ none
        → (if none then by_step words round out rest else refused (read_number one.read) one.place out).number ≡ 0
        → ByStep words round out (one ∷ rest) (if none then by_step words round out rest else refused (read_number one.read) one.place out)
    by_number later true is whole = let all = later whole in ((eqb-true (read_number one.read) 0 is, all.0), all.1, all.2)
    by_number later false is wrong = absurd (eqb-false (read_number one.read) 0 is wrong)

-- a folding that is done: none of 1 and 3 applies, nor a number of any step, nor 11
pub record Done (n : ℕ) (job out : List ℕ) : Type 0 where
  pub room : memory_size n ≡ false
  pub short : job_length job ≡ false
  pub clean : Clean (steps job)
  pub fits : length (fold n job) ≤ job_most
  pub whole : folding n job out ≡ done (fold n job) (kept n job) out

pub folding-when-done : (n : ℕ) (job out : List ℕ) → (folding n job out).number ≡ 0 → Done n job out
unfolding folding start_refusal given ByStep
folding-when-done n job out is = by_tests (memory_size n) (job_length job) refl refl is
  where
    by_tests : (bad long : Bool) → memory_size n ≡ bad → job_length job ≡ long
        → (if eqb (if bad then 1 else if long then 3 else 0) 0 then by_step (fold n job) (kept n job) out (steps job) else
        refused (if bad then 1 else if long then 3 else 0) 0 out).number ≡ 0
        → Done n job out
    by_tests true long room short wrong = absurd (omega arith)
    by_tests false true room short wrong = absurd (omega arith)
    by_tests false false room short is =
        let steps-done = by_step-when-done (fold n job) (kept n job) out (steps job) is in
        record { room = room; short = short; clean = steps-done.0; fits = steps-done.1; whole = rw (room, short) steps-done.2 }

pub folded_job-is-fold : (n : ℕ) (job out : List ℕ) → Done n job out → folded_job n job out ≡ fold n job
folded_job-is-fold n job out is =
    ap (λ (end : Folding). take end.long end.out) is.whole ∙ take-append_seam (fold n job) (drop (length (fold n job)) out)
