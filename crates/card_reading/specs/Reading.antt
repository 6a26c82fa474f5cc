-- Paper 01, "The bench card": "21 key=value lines in this order, each ended by a newline, nothing after".
use Rattle.std.specs.Prelude.{ℕ, zero, suc, ◌+◌, Bool, ◌&&◌, List, eqb, length, if◌then◌else◌}
use Rattle.card_reading.specs.Text.{newline, equals, byte, hex_digit}
use Rattle.card_reading.specs.RamLine.{ram_end, ram_line}
use Rattle.card_reading.specs.Keys.{key_count, letter, line_length}

unfoldable pub key_at : (text : List ℕ) → (at key : ℕ) → Bool
key_at text at key =
    eqb (byte text at) (letter key 0)
    && eqb (byte text (at + 1)) (letter key 1)
    && eqb (byte text (at + 2)) (letter key 2)
    && eqb (byte text (at + 3)) (letter key 3)

-- "four hex digits, capitals"
unfoldable pub word_at : (text : List ℕ) → (at : ℕ) → Bool
word_at text at =
    hex_digit (byte text at)
    && hex_digit (byte text (at + 1))
    && hex_digit (byte text (at + 2))
    && hex_digit (byte text (at + 3))

unfoldable pub key_line : (text : List ℕ) → (at key : ℕ) → Bool
key_line text at key =
    key_at text at key
    && eqb (byte text (at + 4)) equals
    && word_at text (at + 5)
    && eqb (byte text (at + 9)) newline

-- the first bad or missing line from a key's on, with so many to come; "22 for anything after line 21"; 0 where none
-- is bad
unfoldable pub bad_from : (text : List ℕ) → (at key to_come : ℕ) → ℕ
bad_from text at key zero = if eqb at (length text) then 0 else 22
bad_from text at key (suc to_come) =
    if key_line text at key then bad_from text (at + line_length) (key + 1) to_come else
    key + 2

-- "the first bad or missing line, from 1"
unfoldable pub bad_line : (text : List ℕ) → ℕ
bad_line text = if ram_line text then bad_from text (ram_end text + 1) 0 key_count else 1
