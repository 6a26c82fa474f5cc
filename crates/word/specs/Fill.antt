-- Paper 01, "The area blit": the fill of one word, from bit 0 to bit 15, with the carry that comes to it and the carry
-- it hands on.
use Rattle.std.specs.Prelude.{ℕ, zero, suc, ◌%◌}
use Rattle.std.specs.Int.Bits.{bit_or, bit_xor}
use Rattle.word.specs.declared.types.Fill.{Fill}
use Rattle.word.specs.declared.types.Fill.TheVariants.{Off, Inclusive, Exclusive}
use Rattle.word.specs.declared.types.Filled.{Filled}
use Rattle.word.specs.Word.{bit, word}

-- "At each bit the carry is XORed with the bit": the carry, one bit, after the bits below i
unfoldable pub carry : (start word i : ℕ) → ℕ
carry start word zero = start % 2
carry start word (suc i) = bit_xor (carry start word i) (bit word i)

-- "Exclusive gives the new carry"
unfoldable pub exclusive : (start this : ℕ) → ℕ
exclusive start this = word (λ i. carry start this (suc i))

-- "inclusive the new carry OR the bit"
unfoldable pub inclusive : (start this : ℕ) → ℕ
inclusive start this = word (λ i. bit_or (carry start this (suc i)) (bit this i))

-- the filled word, and the carry for the next
unfoldable pub filled : Fill → (start this : ℕ) → Filled
filled Off start this = record { word = this; carry = start }
filled Inclusive start this = record { word = inclusive start this; carry = carry start this 16 }
filled Exclusive start this = record { word = exclusive start this; carry = carry start this 16 }
