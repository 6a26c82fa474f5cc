-- How many places at the front of a run rise one by one.
use Rattle.std.specs.Prelude.{ℕ, suc, ◌+◌, List, [], ◌∷◌, eqb, if◌then◌else◌}

-- how many go on behind a place, each one word further on than the one before it
unfoldable pub following : (place : ℕ) → (places : List ℕ) → ℕ
following place [] = 0
following place (next ∷ rest) =
    if eqb (place + 1) next then suc (following next rest) else
    0

-- the first, and those that go on behind it
unfoldable pub leading : (places : List ℕ) → ℕ
leading [] = 0
leading (place ∷ rest) = suc (following place rest)
