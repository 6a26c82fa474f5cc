-- A line lies, masked, below the first word's line: nowhere on it is the comparison satisfied. The search for a WAIT's
-- place goes by it.
use Rattle.std.specs.Prelude.{ℕ, ◌/◌, ◌%◌, Bool, ltb}
use Rattle.std.specs.Int.Bits.{bit_and}
use Rattle.beam.specs.Satisfied.{mask}

abbrev pub line_below : (first second line : ℕ) → Bool
line_below first second line = ltb (bit_and (line % 256) (mask second / 256)) (bit_and (first / 256) (mask second / 256))
