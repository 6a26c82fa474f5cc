-- A MOVE to the size register that neither 23 nor 21 nor 22 refuses: its number is its blit's own.
use Rattle.std.specs.Prelude.{ℕ}
use Rattle.blit.specs.Blit.{blit_step}
use Rattle.instruction.specs.Effect.{Moment, Turn, after_blit, decided}

unfoldable pub blitted : (size : ℕ) → Moment → Turn
blitted size here = decided (blit_step here.memory here.file size).number (after_blit size here) here
