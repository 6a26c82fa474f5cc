-- Paper 01, "The area blit": "Each result bit is logic-function bit 4a + 2b + c."
use Rattle.std.specs.Prelude.{ℕ, ◌+◌, ◌*◌}
use Rattle.word.specs.Word.{bit, word}

unfoldable pub logic : (function a b c : ℕ) → ℕ
logic function a b c = word (λ i. bit function (4 * bit a i + 2 * bit b i + bit c i))
