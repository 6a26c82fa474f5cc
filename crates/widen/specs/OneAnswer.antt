-- Paper 01, "What each answer commits to": "Show that two answers meeting it are equal".
use Rattle.std.specs.Prelude.{ℕ, ◌≡◌, List}
use Rattle.widen.specs.Widen.{Answer, widening, left}

-- an answer with what the target holds as it is given
pub record Result : Type 0 where
  pub answer : Answer
  pub target : List ℕ

-- what the widening promises
abbrev pub Meets : (old target : List ℕ) → Result → Type 0
Meets old target result = left result.answer result.target ≡ widening old target

abbrev pub OneAnswer : Type 0
OneAnswer =
    (old target : List ℕ) (first second : Result)
    → Meets old target first
    → Meets old target second
    → first ≡ second
