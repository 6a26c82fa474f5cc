-- How the code hands on what the lines say; no promise of the card speaks of it.
use Rattle.std.specs.Prelude.{ℕ, ◌+◌, ◌&&◌, List, Option, Some, None, eqb, leb, if◌then◌else◌}
use Rattle.card_reading.specs.declared.types.Ram.{Ram}
use Rattle.card_reading.specs.Text.{newline, byte}
use Rattle.card_reading.specs.RamLine.{ram_words, ram_end, ram_line}
use Rattle.card_reading.specs.Keys.{key_count}
use Rattle.card_reading.specs.Reading.{bad_from}

abbrev pub ram : (words start : ℕ) → Ram
ram words start = record { words = words; start = start }

-- the number, and the place of the second line; none where the first line is bad
unfoldable pub ram_read : (text : List ℕ) → Option Ram
ram_read text = if ram_line text then Some (ram (ram_words text) (ram_end text + 1)) else None

-- the same once the digits have been read
unfoldable pub ram_ended : (text : List ℕ) → (at words : ℕ) → Option Ram
ram_ended text at words = if leb 1 words && eqb (byte text at) newline then Some (ram words (at + 1)) else None

-- a line's number, none where it is 0
unfoldable pub told : (line : ℕ) → Option ℕ
told line = if eqb line 0 then None else Some line

-- the first bad line after the first, none where none is bad
abbrev pub bad_read : (text : List ℕ) → (start : ℕ) → Option ℕ
bad_read text start = told (bad_from text start 0 key_count)
