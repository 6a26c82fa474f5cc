-- Paper 01, "Memory and registers": words of 16 bits.
-- A word is a number below 65,536, and bit 0 is its lowest. Memory and register file are lists of words.
use Rattle.std.specs.Prelude.{ℕ, zero, suc, ◌+◌, ◌*◌, ◌/◌, ◌%◌, ◌^◌, ◌<◌, Bool, List, eqb, get_or}

-- every word of a run is one of 16 bits
abbrev pub SixteenBits : (run : List ℕ) → Type 0
SixteenBits run = (at : ℕ) → get_or run at 0 < 65536

-- bit i of x: 0 or 1
abbrev pub bit : (x i : ℕ) → ℕ
bit x i = x / 2 ^ i % 2

-- bit i of x is set
abbrev pub is_set : (x i : ℕ) → Bool
is_set x i = eqb (bit x i) 1

-- the number of n bits whose bit i is f i
unfoldable pub of_bits : (f : ℕ → ℕ) → (n : ℕ) → ℕ
of_bits f zero = 0
of_bits f (suc n) = f n * 2 ^ n + of_bits f n

-- the word whose bit i is f i
abbrev pub word : (f : ℕ → ℕ) → ℕ
word f = of_bits f 16
