-- Paper 01, "Folding": "Dependence stands in a table of 256 entries: a source counts when flipping it alone changes
-- the logic function's answer for some setting of the others."
-- A setting of the sources is 4a + 2b + c, and the answer there is that bit of the function.
-- A source is named by its weight in the setting: 4 for A, 2 for B, 1 for C.
use Rattle.std.specs.Prelude.{ℕ, zero, suc, ◌+◌, Bool, false, not, ◌||◌, eqb, if◌then◌else◌}
use Rattle.std.specs.Int.Bits.{bit_xor}
use Rattle.word.specs.Word.{bit}
use Rattle.depends.specs.Types.{Depends}

-- the test holds at some number below n
abbrev pub some : (test : ℕ → Bool) → (n : ℕ) → Bool
some test zero = false
some test (suc n) = test n || some test n

-- the settings of three sources are the numbers below 8
abbrev pub settings : ℕ
settings = 8

-- the setting with one source alone flipped
abbrev pub flipped : (weight setting : ℕ) → ℕ
flipped weight setting = bit_xor setting weight

-- at a setting, flipping the source changes the answer
unfoldable pub changes : (function weight setting : ℕ) → Bool
changes function weight setting = not (eqb (bit function setting) (bit function (flipped weight setting)))

-- "a source counts when flipping it alone changes the logic function's answer for some setting of the others"
unfoldable pub counts : (function weight : ℕ) → Bool
counts function weight = some (changes function weight) settings

-- the sources that a logic function depends on, of which the low eight bits alone matter
abbrev pub depends : (function : ℕ) → Depends
depends function = record { a = counts function 4; b = counts function 2; c = counts function 1 }

-- the table's entry for a function: 4 where it depends on A, plus 2 where on B, plus 1 where on C
unfoldable pub entry : (function : ℕ) → ℕ
entry function =
    (if counts function 4 then 4 else 0)
    + (if counts function 2 then 2 else 0)
    + (if counts function 1 then 1 else 0)
