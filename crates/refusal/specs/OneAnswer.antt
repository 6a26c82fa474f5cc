-- Paper 01, "What each answer commits to": "Show that two answers meeting it are equal". Of the refusal alone, and of that of a
-- job's blit.
use Rattle.std.specs.Prelude.{ℕ, ◌≡◌, List, Result}
use Rattle.refusal.specs.declared.types.Refusal.{Refusal}
use Rattle.refusal.specs.declared.types.Plan.{Plan}
use Rattle.refusal.specs.Plan.{plan}
use Rattle.refusal.specs.Refusal.{step_refusal, refusal, verdict_number, handed}

-- what the calls promise
abbrev pub Meets : (n : ℕ) → (file : List ℕ) → (size : ℕ) → Result Plan Refusal → Type 0
Meets n file size verdict =
    (verdict_number verdict ≡ refusal n file size) × (handed verdict (plan file size) ≡ plan file size)

abbrev pub MeetsStep : (n : ℕ) → (file : List ℕ) → (size : ℕ) → Result Plan Refusal → Type 0
MeetsStep n file size verdict =
    (verdict_number verdict ≡ step_refusal n file size) × (handed verdict (plan file size) ≡ plan file size)

abbrev pub OneAnswer : Type 0
OneAnswer =
    (n : ℕ) (file : List ℕ) (size : ℕ) (first second : Result Plan Refusal)
    → Meets n file size first
    → Meets n file size second
    → first ≡ second

abbrev pub OneStepAnswer : Type 0
OneStepAnswer =
    (n : ℕ) (file : List ℕ) (size : ℕ) (first second : Result Plan Refusal)
    → MeetsStep n file size first
    → MeetsStep n file size second
    → first ≡ second
