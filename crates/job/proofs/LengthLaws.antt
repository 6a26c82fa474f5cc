-- Laws of a job's length.
use Rattle.word.proofs.Base.{◌≡◌, sym, ◌∙◌, ℕ, ◌≤◌, Bool, false, ltb, le-leb, List, length}
use Rattle.word.proofs.ChoiceLaws.{beyond-is-not-within, within-when-passed}
use Rattle.job.specs.Length.{job_most, job_length}

pub job_length-is-beyond : (job : List ℕ) → ltb job_most (length job) ≡ job_length job
unfolding job_length
job_length-is-beyond job = beyond-is-not-within job_most (length job)

pub job_length-when-short : (job : List ℕ) (long : Bool) → long ≡ job_length job → long ≡ false → length job ≤ job_most
unfolding job_length
job_length-when-short job long same short = within-when-passed (length job) job_most (sym same ∙ short)

pub job_length-of-short : (job : List ℕ) → length job ≤ job_most → job_length job ≡ false
unfolding job_length
job_length-of-short job short = rw (le-leb (length job) job_most short)
