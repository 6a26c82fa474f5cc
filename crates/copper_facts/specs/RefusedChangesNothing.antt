-- Paper 02, W8: "a refused instruction changes nothing". A frame refused at an instruction leaves what the frame leaves
-- that is lent just the instructions done; one refused by 1 or 2 leaves what it found.
use Rattle.std.specs.Prelude.{ℕ, ◌≡◌, List}
use Rattle.instruction.specs.Effect.{moment}
use Rattle.copper.specs.Frame.{used_up, refusal, stopped, start_refusal, frame_from}

pub record Stands (memory file : List ℕ) (beam start lent : ℕ) : Type 0 where
  pub before_any :
      (start_refusal memory file ≡ 0 → ⊥)
      → (frame_from memory file beam start lent).moment ≡ moment memory file beam 0
  pub at_one :
      start_refusal memory file ≡ 0
      → (frame_from memory file beam start lent).why ≡ refusal
      → frame_from memory file beam start (frame_from memory file beam start lent).done
      ≡ stopped used_up 0 (frame_from memory file beam start lent).done (frame_from memory file beam start lent).moment

abbrev pub RefusedChangesNothing : Type 0
RefusedChangesNothing = (memory file : List ℕ) (beam start lent : ℕ) → Stands memory file beam start lent
