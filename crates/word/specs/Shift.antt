-- Paper 01, "The area blit": the shift of A, after the mask, and of B.
-- The pair has 32 bits and n is at most 15, so a shift by nought is a shift like the others.
use Rattle.std.specs.Prelude.{ℕ, ◌+◌, ◌*◌, ◌/◌, ◌%◌, ◌^◌}
use Rattle.word.specs.declared.types.Direction.{Direction}
use Rattle.word.specs.declared.types.Direction.TheVariants.{Ascending, Descending}

-- Ascending, "the earlier word stands left of this one and the 32-bit pair moves right by n, low 16 bits kept".
-- Descending, it "stands right and the pair moves left, high 16 bits kept".
abbrev pub shifted : Direction → (n earlier this : ℕ) → ℕ
shifted Ascending n earlier this = (earlier * 65536 + this) / 2 ^ n % 65536
shifted Descending n earlier this = (this * 65536 + earlier) * 2 ^ n / 65536 % 65536
