-- Paper 01, "The bench card": the first line.
use Rattle.std.specs.Prelude.{ℕ, ◌+◌, ◌*◌, ◌-◌, Bool, not, ◌&&◌, List, [], ◌∷◌, eqb, leb, length, drop, if◌then◌else◌}
use Prim.Native.Char.{code}
use Rattle.card_reading.specs.Text.{newline, equals, byte, decimal_digit}

-- "ram (decimal 1 to 32768, no leading zero)": the digits that follow `ram=`, the number that they spell
unfoldable pub digits : (text : List ℕ) → List ℕ
digits [] = []
digits (byte ∷ rest) = if decimal_digit byte then byte ∷ digits rest else []

abbrev pub with_digit : (before byte : ℕ) → ℕ
with_digit before byte = before * 10 + (byte - code "0")

unfoldable pub spelled : (before : ℕ) → (digits : List ℕ) → ℕ
spelled before [] = before
spelled before (byte ∷ rest) = spelled (with_digit before byte) rest

abbrev pub ram_words : (text : List ℕ) → ℕ
ram_words text = spelled 0 (digits (drop 4 text))

-- the place of the newline that must follow them
abbrev pub ram_end : (text : List ℕ) → ℕ
ram_end text = 4 + length (digits (drop 4 text))

-- the line begins with `ram=`
unfoldable pub ram_key : (text : List ℕ) → Bool
ram_key text =
    eqb (byte text 0) (code "r")
    && eqb (byte text 1) (code "a")
    && eqb (byte text 2) (code "m")
    && eqb (byte text 3) equals

-- its key, no 0 first, a number from 1 to 32768, and the newline
unfoldable pub ram_line : (text : List ℕ) → Bool
ram_line text =
    ram_key text
    && not (eqb (byte text 4) (code "0"))
    && leb 1 (ram_words text)
    && leb (ram_words text) 32768
    && eqb (byte text (ram_end text)) newline
