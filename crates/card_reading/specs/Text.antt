-- Bytes of a text: digits read, digits printed.
use Rattle.std.specs.Prelude.{ℕ, ◌+◌, ◌*◌, ◌-◌, ◌/◌, ◌%◌, Bool, ◌&&◌, ◌||◌, List, [], ◌∷◌, ◌++◌, leb, get_or, if◌then◌else◌}
use Prim.Native.Char.{code}

abbrev pub newline : ℕ
newline = code "\n"

abbrev pub equals : ℕ
equals = code "="

abbrev pub colon : ℕ
colon = code ":"

-- the byte at a place; past the end 0, which no good line has
abbrev pub byte : (text : List ℕ) → (at : ℕ) → ℕ
byte text at = get_or text at 0

-- 0 to 9
unfoldable pub decimal_digit : (byte : ℕ) → Bool
decimal_digit byte = leb (code "0") byte && leb byte (code "9")

-- A to F
unfoldable pub capital : (byte : ℕ) → Bool
capital byte = leb (code "A") byte && leb byte (code "F")

unfoldable pub hex_digit : (byte : ℕ) → Bool
hex_digit byte = decimal_digit byte || capital byte

unfoldable pub hex_value : (byte : ℕ) → ℕ
hex_value byte =
    if decimal_digit byte then byte - code "0" else
    if capital byte then byte - code "A" + 10 else
    0

-- the word that four hex digits from a place on spell
unfoldable pub hex_word : (text : List ℕ) → (at : ℕ) → ℕ
hex_word text at =
    hex_value (byte text at) * 4096
    + hex_value (byte text (at + 1)) * 256
    + hex_value (byte text (at + 2)) * 16
    + hex_value (byte text (at + 3))

-- a digit as it is printed
unfoldable pub glyph : (digit : ℕ) → ℕ
glyph digit = if leb digit 9 then code "0" + digit else code "A" + (digit - 10)

unfoldable pub hex4 : ℕ → List ℕ
hex4 n = glyph (n / 4096 % 16) ∷ glyph (n / 256 % 16) ∷ glyph (n / 16 % 16) ∷ glyph (n % 16) ∷ []

unfoldable pub hex5 : ℕ → List ℕ
hex5 n = glyph (n / 65536 % 16) ∷ hex4 n

-- a digit before the last stands where the number reaches its power of ten
unfoldable pub leading : (power n : ℕ) → List ℕ
leading power n = if leb power n then glyph (n / power % 10) ∷ [] else []

-- a number below 100,000, as all numbers of a card are
unfoldable pub decimal : ℕ → List ℕ
decimal n =
    leading 10000 n
    ++ (leading 1000 n
    ++ (leading 100 n
    ++ (leading 10 n
    ++ (glyph (n % 10) ∷ []))))
