-- Paper 01, "Numbers given back": the folder's answer, and the output run as it leaves it. Paper 02, W12: its yes.
use Rattle.std.specs.Prelude.{ℕ, Bool, false, not, ◌||◌, List, [], ◌∷◌, ◌++◌, eqb, leb, length, drop, if◌then◌else◌}
use Rattle.word.specs.Choice.{◌when◌, given}
use Rattle.word.specs.Memory.{memory_size}
use Rattle.job.specs.Step.{read_number}
use Rattle.job.specs.Steps.{Placed, steps}
use Rattle.job.specs.Length.{job_most, job_length}
use Rattle.folder.specs.Fold.{fold}
use Rattle.folder.specs.Kept.{kept}

-- what a folding gives and leaves; round: whether it kept a blit for going round alone
pub record Folding : Type 0 where
  pub number : ℕ
  pub place : ℕ
  pub long : ℕ
  pub round : Bool
  pub out : List ℕ

-- "A folder refusal answers length 0 with the step's place .., output unchanged"
abbrev pub refused : (number place : ℕ) → (out : List ℕ) → Folding
refused number place out = record { number = number; place = place; long = 0; round = false; out = out }

-- "a done folding has place 0"; "Output beyond the folded length stays as it was."
abbrev pub done : (words : List ℕ) → (round : Bool) → (out : List ℕ) → Folding
done words round out =
    record { number = 0; place = 0; long = length words; round = round; out = words ++ drop (length words) out }

-- "Order: 1, .., 3": N, then the job's length
unfoldable pub start_refusal : (n : ℕ) → (job : List ℕ) → ℕ
start_refusal n job =
    given
    (1 when memory_size n
    ∷ 3 when job_length job
    ∷ [])

-- "folded job longer than the output or than 4,096 words": last of all
unfoldable pub too_long : (words out : List ℕ) → Bool
too_long words out = not (leb (length words) (length out)) || not (leb (length words) job_most)

-- "step by step 4, 5, 6": the first that is no step, or the end
unfoldable pub by_step : (words : List ℕ) → (round : Bool) → (out : List ℕ) → List Placed → Folding
by_step words round out [] = if too_long words out then refused 11 0 out else done words round out
by_step words round out (one ∷ rest) =
    if eqb (read_number one.read) 0 then by_step words round out rest else
    refused (read_number one.read) one.place out

unfoldable pub folding : (n : ℕ) → (job out : List ℕ) → Folding
folding n job out =
    if eqb (start_refusal n job) 0 then by_step (fold n job) (kept n job) out (steps job) else
    refused (start_refusal n job) 0 out
