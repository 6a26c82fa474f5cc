-- Paper 01, "Jobs": "A job is a lent run of at most 4,096 16-bit words."
use Rattle.std.specs.Prelude.{ℕ, Bool, not, List, leb, length}

abbrev pub job_most : ℕ
job_most = 4096

-- "job over 4,096 words"
unfoldable pub job_length : (job : List ℕ) → Bool
job_length job = not (leb (length job) job_most)
