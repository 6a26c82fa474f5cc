-- How far a line comes from dot to dot at most, in pixels of all words counted through. What only a quick look at a line
-- goes by: no blit is defined by it.
use Rattle.std.specs.Prelude.{ℕ, ◌+◌, ◌*◌, ◌%◌, if◌then◌else◌}
use Rattle.word.specs.Pointer.{pointer_end}
use Rattle.word.specs.Round.{is_below, far_below}

-- the pixels of a vertical move, up or down
unfoldable pub rise : (row : ℕ) → ℕ
rise row = 16 * (if is_below row then far_below row else row % pointer_end)

-- and one more, for the horizontal move
abbrev pub reach : (row : ℕ) → ℕ
reach row = rise row + 1
