-- Paper 01, "Kept for lines and Copper lists": "the A pointer's low half gains the whole A modulo if sign is 0, else the B
-- modulo, modulo 65,536, and its bit 15 is the new sign".
use Rattle.std.specs.Prelude.{ℕ, ◌+◌, ◌%◌, Bool, if◌then◌else◌}
use Rattle.word.specs.Word.{is_set}
use Rattle.line.specs.Types.{Gains}

abbrev pub gained : Gains → (sign : Bool) → (accumulator : ℕ) → ℕ
gained gains sign accumulator = (accumulator + (if sign then gains.b else gains.a)) % 65536

abbrev pub sign_of : (accumulator : ℕ) → Bool
sign_of accumulator = is_set accumulator 15
