-- Paper 02, W8: "why it stopped (end of frame, else number used up, else refusal)": each exactly when it is so before
-- the next instruction and none before it in this order is, all earlier instructions being done.
use Rattle.std.specs.Prelude.{ℕ, ◌<◌, ◌≤◌, ◌≡◌, true, false, List, ◌↔◌}
use Rattle.instruction.specs.Effect.{Moment, moment, effect}
use Rattle.copper.specs.Frame as frames
use Rattle.copper.specs.Frame.{Frame, stopped, over, start_refusal, frame_from}
use Rattle.copper_facts.specs.Course.{after, goes}

-- a frame that starts at a moment, with so many instructions lent
pub record ExactWhy (here : Moment) (lent : ℕ) (end : Frame) : Type 0 where
  -- "end of frame"
  pub end_of_frame : (done : ℕ)
      → end ≡ stopped frames.end_of_frame 0 done (after done here)
      ↔ (done ≤ lent) × (goes done here ≡ true) × (over (after done here) ≡ true)
  -- "else number used up"
  pub used_up :
      end ≡ stopped frames.used_up 0 lent (after lent here)
      ↔ (goes lent here ≡ true) × (over (after lent here) ≡ false)
  -- "else refusal": by the next instruction's own number
  pub refusal : (done number : ℕ)
      → end ≡ stopped frames.refusal number done (after done here)
      ↔ (done < lent) × (goes done here ≡ true) × (over (after done here) ≡ false)
      × ((effect (after done here)).number ≡ number) × (number ≡ 0 → ⊥)

-- 1 and 2 come before any instruction
abbrev pub WhyExactly : Type 0
WhyExactly =
    (memory file : List ℕ) (beam start lent : ℕ)
    → start_refusal memory file ≡ 0
    → ExactWhy (moment memory file beam start) lent (frame_from memory file beam start lent)
