-- Paper 01, "What each answer commits to": "Show that two answers meeting it are equal".
use Rattle.std.specs.Prelude.{ℕ, ◌≡◌, List}
use Rattle.playfield.specs.Playfield.{Playfield}
use Rattle.picture.specs.Picture.{Answer, picture, left}

-- an answer with what the lent run holds as it is given
pub record Result : Type 0 where
  pub answer : Answer
  pub out : List ℕ

-- what the call promises
abbrev pub Meets : (memory file : List ℕ) → Playfield → (out : List ℕ) → Result → Type 0
Meets memory file field out result = left result.answer result.out ≡ picture memory file field out

abbrev pub OneAnswer : Type 0
OneAnswer =
    (memory file : List ℕ) (field : Playfield) (out : List ℕ) (first second : Result)
    → Meets memory file field out first
    → Meets memory file field out second
    → first ≡ second
