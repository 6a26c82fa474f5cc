-- What folding a job into a run of our own leaves, before anything is handed out.
use Rattle.std.specs.Prelude.{ℕ, ◌≤◌, ◌≡◌, List, length, Ok, Err}
use Rattle.word.specs.Laid.{laid}
use Rattle.job.specs.Steps.{steps}
use Rattle.job.specs.Length.{job_most}
use Rattle.folder.specs.Types.{Answer}
use Rattle.folder.specs.Fold.{fold}
use Rattle.folder.specs.Kept.{kept}
use Rattle.folder.specs.Folding.{Folding, refused, done, by_step}
use Rattle.folder.specs.Answer.{refusal_number}

-- a folded job that has room in an output and in a job
pub record Fits (words out : List ℕ) (long : ℕ) : Type 0 where
  pub counts : long ≡ length words
  pub room : long ≤ length out
  pub few : long ≤ job_most

-- an answer, and the folding into an output that it is the answer of
unfoldable pub Answers : Answer → (words out : List ℕ) → Folding → Type 0
Answers (Ok folded) words out end = Fits words out folded.length × (end ≡ done words folded.round out)
Answers (Err stopped) words out end = end ≡ refused (refusal_number stopped.why) stopped.place out

-- the answer, and the folded job in the run, as far as the run goes
pub record Folded (n : ℕ) (job out run : List ℕ) (answer : Answer) (next : List ℕ) : Type 0 where
  pub answers : Answers answer (fold n job) out (by_step (fold n job) (kept n job) out (steps job))
  pub lays : next ≡ laid (fold n job) 0 run
