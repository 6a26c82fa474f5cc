-- Paper 01, "What each answer commits to": "Show that two answers meeting it are equal". Of a frame and of the rest of
-- one.
use Rattle.std.specs.Prelude.{ℕ, ◌≡◌, List}
use Rattle.copper.specs.declared.types.Answer.{Answer}
use Rattle.copper.specs.Frame.{frame_from}
use Rattle.copper.specs.Answer.{left}

-- an answer with what memory and file hold as it is given
pub record Result : Type 0 where
  pub answer : Answer
  pub memory : List ℕ
  pub file : List ℕ

-- what the call promises
abbrev pub Meets : (memory file : List ℕ) → (beam start lent : ℕ) → Result → Type 0
Meets memory file beam start lent result =
    left result.answer result.memory result.file ≡ frame_from memory file beam start lent

abbrev pub OneAnswer : Type 0
OneAnswer =
    (memory file : List ℕ) (beam start lent : ℕ) (first second : Result)
    → Meets memory file beam start lent first
    → Meets memory file beam start lent second
    → first ≡ second
