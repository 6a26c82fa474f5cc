-- Paper 01, "What each answer commits to": "Show that two answers meeting it are equal". Of the blit called alone, and of a job's
-- blit.
use Rattle.std.specs.Prelude.{ℕ, ◌≡◌, List, Result}
use Rattle.refusal.specs.declared.types.Refusal.{Refusal}
use Rattle.blit.specs.declared.types.Done.{Done}
use Rattle.blit.specs.Blit.{blit_step, blit, left}

-- an answer with what memory and file hold as it is given
pub record Given : Type 0 where
  pub answer : Result Done Refusal
  pub memory : List ℕ
  pub file : List ℕ

-- what the calls promise
abbrev pub Meets : (memory file : List ℕ) → (size : ℕ) → Given → Type 0
Meets memory file size given = left given.answer given.memory given.file ≡ blit memory file size

abbrev pub MeetsStep : (memory file : List ℕ) → (size : ℕ) → Given → Type 0
MeetsStep memory file size given = left given.answer given.memory given.file ≡ blit_step memory file size

abbrev pub OneAnswer : Type 0
OneAnswer =
    (memory file : List ℕ) (size : ℕ) (first second : Given)
    → Meets memory file size first
    → Meets memory file size second
    → first ≡ second

abbrev pub OneStepAnswer : Type 0
OneStepAnswer =
    (memory file : List ℕ) (size : ℕ) (first second : Given)
    → MeetsStep memory file size first
    → MeetsStep memory file size second
    → first ≡ second
