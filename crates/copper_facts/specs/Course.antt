-- The course of a list, instruction by instruction, whatever number is lent.
use Rattle.std.specs.Prelude.{ℕ, zero, suc, Bool, true, not, ◌&&◌, eqb}
use Rattle.instruction.specs.Effect.{Moment, effect}
use Rattle.copper.specs.Frame.{over}

-- the moment after so many instructions
unfoldable pub after : (many : ℕ) → Moment → Moment
after zero here = here
after (suc many) here = after many (effect here).moment

-- so many instructions start inside the frame and are done
unfoldable pub goes : (many : ℕ) → Moment → Bool
goes zero here = true
goes (suc many) here = not (over here) && eqb (effect here).number 0 && goes many (effect here).moment
