-- Paper 01, "The bench card": the keys after the first, in the card's order.
use Rattle.std.specs.Prelude.{ℕ, ◌+◌, ◌*◌, List, [], ◌∷◌, get_or}
use Prim.Native.String.{String}
use Rattle.card_reading.specs.Letters.{all_bytes}

-- four letters each
abbrev pub keys : List String
keys =
    "con0" ∷ "con1" ∷ "afwm" ∷ "alwm"
    ∷ "cpth" ∷ "cptl" ∷ "bpth" ∷ "bptl" ∷ "apth" ∷ "aptl" ∷ "dpth" ∷ "dptl"
    ∷ "size"
    ∷ "cmod" ∷ "bmod" ∷ "amod" ∷ "dmod"
    ∷ "cdat" ∷ "bdat" ∷ "adat"
    ∷ []

abbrev pub key_count : ℕ
key_count = 20

unfoldable pub letters : List ℕ
letters = all_bytes keys

-- a letter of a key, keys and letters counted from 0
abbrev pub letter : (key at : ℕ) → ℕ
letter key at = get_or letters (key * 4 + at) 0

-- a key's line has ten bytes: four letters, the equals sign, four digits and the newline
abbrev pub line_length : ℕ
line_length = 10
