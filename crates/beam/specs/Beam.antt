-- Paper 02, W8: "one frame of 262 lines, 227 positions each". The beam's places count on from line to line: a place is
-- its line × 227 + its position, and the frame begins at place 0, "at line 0, position 0".
use Rattle.std.specs.Prelude.{ℕ, ◌*◌, ◌/◌, ◌%◌}

abbrev pub lines : ℕ
lines = 262

abbrev pub positions : ℕ
positions = 227

-- the first place past the frame: 59,474
abbrev pub frame_end : ℕ
frame_end = lines * positions

abbrev pub line : (place : ℕ) → ℕ
line place = place / positions

abbrev pub position : (place : ℕ) → ℕ
position place = place % positions
