-- Paper 01, "What each answer commits to": "Show that two answers meeting it are equal".
use Rattle.std.specs.Prelude.{ℕ, ◌≡◌, List}
use Rattle.folder.specs.Types.{Answer}
use Rattle.folder.specs.Folding.{folding}
use Rattle.folder.specs.Answer.{left}

-- an answer with what the output run holds as it is given
pub record Result : Type 0 where
  pub answer : Answer
  pub out : List ℕ

-- what the folder promises
abbrev pub Meets : (n : ℕ) → (job out : List ℕ) → Result → Type 0
Meets n job out result = left result.answer result.out ≡ folding n job out

abbrev pub OneAnswer : Type 0
OneAnswer =
    (n : ℕ) (job out : List ℕ) (first second : Result)
    → Meets n job out first
    → Meets n job out second
    → first ≡ second
