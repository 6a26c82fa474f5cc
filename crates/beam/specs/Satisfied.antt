-- Paper 01, "Copper": "Satisfied means that (line modulo 256) × 256 + position is at least the first word, both ANDed
-- with the second with its bit 15 set and bit 0 clear."
use Rattle.std.specs.Prelude.{ℕ, ◌+◌, ◌*◌, ◌%◌, Bool, leb}
use Rattle.std.specs.Int.Bits.{bit_and, bit_or}
use Rattle.beam.specs.Beam.{line, position}

-- "the second with its bit 15 set and bit 0 clear"
abbrev pub mask : (second : ℕ) → ℕ
mask second = bit_or (bit_and second 0xFFFE) 0x8000

-- "(line modulo 256) × 256 + position"
abbrev pub compared : (place : ℕ) → ℕ
compared place = line place % 256 * 256 + position place

unfoldable pub satisfied : (first second place : ℕ) → Bool
satisfied first second place = leb (bit_and first (mask second)) (bit_and (compared place) (mask second))
