-- Paper 01, "What each answer commits to": "Show that two answers meeting it are equal".
use Rattle.std.specs.Prelude.{ℕ, ◌≡◌, List}
use Rattle.runner.specs.Types.{Answer}
use Rattle.runner.specs.Run.{run}
use Rattle.runner.specs.Answer.{left}

-- an answer with what memory and file hold as it is given
pub record Result : Type 0 where
  pub answer : Answer
  pub memory : List ℕ
  pub file : List ℕ

-- what the runner promises
abbrev pub Meets : (memory file job : List ℕ) → Result → Type 0
Meets memory file job result = left result.answer result.memory result.file ≡ run memory file job

abbrev pub OneAnswer : Type 0
OneAnswer =
    (memory file job : List ℕ) (first second : Result)
    → Meets memory file job first
    → Meets memory file job second
    → first ≡ second
