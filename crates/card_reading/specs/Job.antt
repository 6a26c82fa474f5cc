-- Paper 01, "The bench card": "the values are written as a job, size last."
use Rattle.std.specs.Prelude.{ℕ, ◌+◌, ◌*◌, List, [], ◌∷◌, get_or}
use Rattle.card_reading.specs.Text.{hex_word}
use Rattle.card_reading.specs.RamLine.{ram_end}
use Rattle.card_reading.specs.Keys.{line_length}

-- the offset of each key's register, in the order of the keys
unfoldable pub offsets : List ℕ
offsets =
    0x040 ∷ 0x042 ∷ 0x044 ∷ 0x046
    ∷ 0x048 ∷ 0x04A ∷ 0x04C ∷ 0x04E ∷ 0x050 ∷ 0x052 ∷ 0x054 ∷ 0x056
    ∷ 0x058
    ∷ 0x060 ∷ 0x062 ∷ 0x064 ∷ 0x066
    ∷ 0x070 ∷ 0x072 ∷ 0x074
    ∷ []

-- the keys in the order of the job's writes: size, the thirteenth, last
unfoldable pub write_order : List ℕ
write_order =
    0 ∷ 1 ∷ 2 ∷ 3
    ∷ 4 ∷ 5 ∷ 6 ∷ 7 ∷ 8 ∷ 9 ∷ 10 ∷ 11
    ∷ 13 ∷ 14 ∷ 15 ∷ 16
    ∷ 17 ∷ 18 ∷ 19
    ∷ 12
    ∷ []

-- the value of a key, where the keys' lines start at a place
abbrev pub value : (text : List ℕ) → (start key : ℕ) → ℕ
value text start key = hex_word text (start + key * line_length + 5)

unfoldable pub writes : (text : List ℕ) → (start : ℕ) → (keys : List ℕ) → List ℕ
writes text start [] = []
writes text start (key ∷ rest) = get_or offsets key 0 ∷ value text start key ∷ writes text start rest

abbrev pub card_job : (text : List ℕ) → List ℕ
card_job text = writes text (ram_end text + 1) write_order
