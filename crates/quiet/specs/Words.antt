-- Paper 01, "The area blit": the final words of three sources whose words are given, numbered from 0 over rows of so many
-- words each. Memory has no part in it.
use Rattle.std.specs.Prelude.{ℕ, zero, suc, ◌+◌, ◌%◌, eqb, if◌then◌else◌}
use Rattle.word.specs.declared.types.Direction.{Direction}
use Rattle.word.specs.declared.types.Fill.{Fill}
use Rattle.word.specs.declared.types.Filled.{Filled}
use Rattle.word.specs.Mask.{masked}
use Rattle.word.specs.Shift.{shifted}
use Rattle.word.specs.Logic.{logic}
use Rattle.word.specs.Fill.{filled}
use Rattle.area.specs.declared.types.Masks.{Masks}
use Rattle.area.specs.Types.{Earlier}
use Rattle.area.specs.declared.types.Setup.{Setup}

-- the word before word k; before the first stands a given one
unfoldable pub word_before : (first : ℕ) → (word : ℕ → ℕ) → (k : ℕ) → ℕ
word_before first word zero = first
word_before first word (suc k) = word k

-- "A is ANDed with BLTAFWM on the first word of a row and BLTALWM on the last"
unfoldable pub masked_at : Masks → (width : ℕ) → (word : ℕ → ℕ) → (k : ℕ) → ℕ
masked_at masks width word k =
    masked (eqb (k % width) 0) (eqb (k % width + 1) width) masks.first masks.last (word k)

-- the earlier word runs on from row to row
unfoldable pub shifted_at : Direction → (n first : ℕ) → (word : ℕ → ℕ) → (k : ℕ) → ℕ
shifted_at direction n first word k = shifted direction n (word_before first word k) (word k)

unfoldable pub mixed_at : (function : ℕ) → (a b c : ℕ → ℕ) → (k : ℕ) → ℕ
mixed_at function a b c k = logic function (a k) (b k) (c k)

-- "Fill runs per row .. its carry starting at carry-in": the carry that comes to word k
unfoldable pub carry_to : Fill → (start width : ℕ) → (word : ℕ → ℕ) → (k : ℕ) → ℕ
carry_to fill start width word zero = start
carry_to fill start width word (suc k) =
    if eqb (suc k % width) 0 then start else
    (filled fill (carry_to fill start width word k) (word k)).carry

unfoldable pub filled_at : Fill → (start width : ℕ) → (word : ℕ → ℕ) → (k : ℕ) → Filled
filled_at fill start width word k = filled fill (carry_to fill start width word k) (word k)

-- before the fill, and after it
unfoldable pub result_at : Setup → (width : ℕ) → Earlier → (a b c : ℕ → ℕ) → (k : ℕ) → ℕ
result_at setup width earlier a b c =
    mixed_at setup.function
    (shifted_at setup.direction setup.shifts.a earlier.a (masked_at setup.masks width a))
    (shifted_at setup.direction setup.shifts.b earlier.b b)
    c

abbrev pub final_at : Setup → (width : ℕ) → Earlier → (a b c : ℕ → ℕ) → (k : ℕ) → Filled
final_at setup width earlier a b c = filled_at setup.fill setup.carry width (result_at setup width earlier a b c)
