-- What an instruction and a frame leave can be gone on with, where memory's words have 16 bits: a register file that is
-- accepted is accepted again, and memory has as many words of 16 bits as before.
use Rattle.std.specs.Prelude.{ℕ, List}
use Rattle.blit.specs.AcceptedAgain.{Ready}
use Rattle.instruction.specs.Effect.{Moment, effect}
use Rattle.copper.specs.Frame.{frame_from}

abbrev pub ReadyAt : (n : ℕ) → Moment → Type 0
ReadyAt n here = Ready n here.memory here.file

-- an instruction, done or refused; and a frame, or the rest of one, however it stopped
pub record AcceptedAgain : Type 0 where
  pub instruction : (n : ℕ) (here : Moment) → ReadyAt n here → ReadyAt n (effect here).moment
  pub frame : (n : ℕ) (memory file : List ℕ) (beam start lent : ℕ)
      → Ready n memory file
      → ReadyAt n (frame_from memory file beam start lent).moment
