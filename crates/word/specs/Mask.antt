-- Paper 01, "The area blit": "A is ANDed with BLTAFWM on the first word of a row and BLTALWM on the last; with both
-- where the width is one."
use Rattle.std.specs.Prelude.{ℕ, Bool, if◌then◌else◌}
use Rattle.std.specs.Int.Bits.{bit_and}

unfoldable pub masked_when : (applies : Bool) → (mask word : ℕ) → ℕ
masked_when applies mask word = if applies then bit_and word mask else word

unfoldable pub masked : (first last : Bool) → (afwm alwm word : ℕ) → ℕ
masked first last afwm alwm word = masked_when last alwm (masked_when first afwm word)
