-- Paper 02, W8: one frame ends whatever the list, also one that a blit rewrites for ever. A frame has room for 14,869
-- instructions of four positions, so that no more are done, and who lends as many never finds them used up; the rest of
-- a frame, from any place of the beam on, has room for no more.
use Rattle.std.specs.Prelude.{ℕ, ◌≤◌, ◌≡◌, List}
use Rattle.copper.specs.Frame.{used_up, Frame, frame_from}

abbrev pub most_instructions : ℕ
most_instructions = 14869

pub record Ends (lent : ℕ) (end : Frame) : Type 0 where
  pub few : end.done ≤ most_instructions
  pub never : most_instructions ≤ lent → end.why ≡ used_up → ⊥

abbrev pub EveryFrameEnds : Type 0
EveryFrameEnds = (memory file : List ℕ) (beam start lent : ℕ) → Ends lent (frame_from memory file beam start lent)
