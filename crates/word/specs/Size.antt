-- Paper 01, "The area blit": "Height is BLTSIZE bits 15-6, width in words bits 5-0. Zero means 1,024 and 64."
use Rattle.std.specs.Prelude.{ℕ, ◌/◌, ◌%◌, eqb, if◌then◌else◌}

unfoldable pub height : (size : ℕ) → ℕ
height size =
    if eqb (size / 64 % 1024) 0 then 1024 else
    size / 64 % 1024

unfoldable pub width : (size : ℕ) → ℕ
width size =
    if eqb (size % 64) 0 then 64 else
    size % 64
