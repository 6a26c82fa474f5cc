-- Laws of the fill. Each bit of an exclusive fill is the XOR of the carry and all the bits up to it, which four doublings make:
-- `x ^= x << 1`, then by 2, by 4 and by 8.
use Rattle.word.proofs.Base.{◌≡◌, refl, sym, ap, ap₂, ◌∙◌, ℕ, zero, suc, ◌+◌, ◌*◌, ◌/◌, ◌%◌, ◌^◌, ◌<◌, zero-add}
use Rattle.word.proofs.Base.{mod-lt, one-add, arith, bit_or, bit_xor}
use native.Mathlib.Nat.{suc-add, mul-one, mul_assoc, pow-suc, not-suc-le-zero, le_of_suc-le-suc, zero-lt-suc}
use lib.Dec.{lit<}
use lib.Bits.{xor_comm, xor_zero_r, xor_lt, or_lt}
use Rattle.word.specs.declared.types.Fill.{Fill}
use Rattle.word.specs.declared.types.Fill.TheVariants.{Off, Inclusive, Exclusive}
use Rattle.word.specs.declared.types.Filled.{Filled}
use Rattle.word.specs.Word.{bit, word}
use Rattle.word.specs.Fill.{carry, exclusive, inclusive, filled}
use Rattle.word.proofs.WordLaws.{bit-lt, bit-of-or, bit-of-xor, bit-of-remainder, bit-of-shift, bit-below-shift, bit-of-spread, of_bits-is-unique, bit-of-of_bits, of_bits-lt, xor_assoc}

xor-right-comm : (a b c : ℕ) → bit_xor (bit_xor a b) c ≡ bit_xor (bit_xor a c) b
xor-right-comm a b c = xor_assoc a b c ∙ ap (bit_xor a) (xor_comm b c) ∙ sym (xor_assoc a c b)

-- a row of bits moved up by k places
back : (f : ℕ → ℕ) (k i : ℕ) → ℕ
back f zero i = f i
back f (suc k) zero = 0
back f (suc k) (suc i) = back f k i

back-is-pointwise : (f g : ℕ → ℕ) (k i n : ℕ) → i < n → ((j : ℕ) → j < n → f j ≡ g j) → back f k i ≡ back g k i
unfolding back
back-is-pointwise f g zero i n inside same = same i inside
back-is-pointwise f g (suc k) zero n inside same = refl
back-is-pointwise f g (suc k) (suc i) n inside same = back-is-pointwise f g k i n (omega arith) same

bit-is-back : (x k i : ℕ) → bit (x * 2 ^ k) i ≡ back (bit x) k i
unfolding back
bit-is-back x zero i = ap (λ (n : ℕ). bit n i) (mul-one x)
bit-is-back x (suc k) zero = bit-below-shift x (suc k) 0 (zero-lt-suc k)
bit-is-back x (suc k) (suc i) =
    ap₂ bit (ap (λ (n : ℕ). x * n) (pow-suc 2 k) ∙ sym (mul_assoc x (2 ^ k) 2)) (sym (one-add i))
    ∙ bit-of-shift (x * 2 ^ k) 1 i
    ∙ bit-is-back x k i

-- the XOR of the k bits of a word that end at bit i, of all of them where there are fewer
upto : (word k i : ℕ) → ℕ
upto word zero i = 0
upto word (suc k) zero = bit word 0
upto word (suc k) (suc i) = bit_xor (upto word k i) (bit word (suc i))

upto-one : (word i : ℕ) → bit word i ≡ upto word 1 i
unfolding upto
upto-one word zero = refl
upto-one word (suc i) = refl

upto-sum : (word j k i : ℕ) → upto word (j + k) i ≡ bit_xor (upto word j i) (back (upto word k) j i)
unfolding upto back
upto-sum word zero k i = ap (λ (n : ℕ). upto word n i) (zero-add k)
upto-sum word (suc j) k zero = ap (λ (n : ℕ). upto word n 0) (suc-add j k) ∙ sym (xor_zero_r (bit word 0))
upto-sum word (suc j) k (suc i) =
    ap (λ (n : ℕ). upto word n (suc i)) (suc-add j k)
    ∙ ap (λ (n : ℕ). bit_xor n (bit word (suc i))) (upto-sum word j k i)
    ∙ xor-right-comm (upto word j i) (back (upto word k) j i) (bit word (suc i))

-- a doubling: what was the XOR of k bits becomes the XOR of twice as many
upto-doubled : (word y k : ℕ) → ((i : ℕ) → i < 16 → bit y i ≡ upto word k i)
    → (i : ℕ) → i < 16 → bit (bit_xor y (y * 2 ^ k % 2 ^ 16)) i ≡ upto word (k + k) i
upto-doubled word y k same i inside =
    bit-of-xor y (y * 2 ^ k % 2 ^ 16) i
    ∙ ap₂ bit_xor (same i inside) (bit-of-remainder (y * 2 ^ k) 16 i inside ∙ bit-is-back y k i ∙ back-is-pointwise (bit y) (upto word k) k i 16 inside same)
    ∙ sym (upto-sum word k k i)

upto-is-carry : (word k i : ℕ) → i < k → upto word k i ≡ carry 0 word (suc i)
unfolding upto carry
upto-is-carry word zero i inside = absurd (not-suc-le-zero inside)
upto-is-carry word (suc k) zero inside = refl
upto-is-carry word (suc k) (suc i) inside = ap (λ (n : ℕ). bit_xor n (bit word (suc i))) (upto-is-carry word k i (le_of_suc-le-suc inside))

carry-from-start : (start word i : ℕ) → bit_xor (carry 0 word i) (start % 2) ≡ carry start word i
unfolding carry
carry-from-start start word zero = refl
carry-from-start start word (suc i) =
    xor-right-comm (carry 0 word i) (bit word i) (start % 2)
    ∙ ap (λ (n : ℕ). bit_xor n (bit word i)) (carry-from-start start word i)

pub carry-lt : (start word i : ℕ) → carry start word i < 2
unfolding carry
carry-lt start word zero = omega arith
carry-lt start word (suc i) = xor_lt 1 (carry start word i) (bit word i) (carry-lt start word i) (bit-lt word i)

-- one doubling, as the program makes it
abbrev pub doubled : (k y : ℕ) → ℕ
doubled k y = bit_xor y (y * 2 ^ k % 2 ^ 16)

-- the four doublings, turned over by a carry
unfoldable pub prefix : (start this : ℕ) → ℕ
prefix start this = bit_xor (doubled 8 (doubled 4 (doubled 2 (doubled 1 this)))) (start % 2 * 65535)

doubled-lt : (k y : ℕ) → y < 2 ^ 16 → doubled k y < 2 ^ 16
doubled-lt k y small = xor_lt 16 y (y * 2 ^ k % 2 ^ 16) small (mod-lt (y * 2 ^ k) (lit< tt))

prefix-lt : (start this : ℕ) → this < 2 ^ 16 → prefix start this < 2 ^ 16
unfolding prefix
prefix-lt start this small =
    xor_lt 16 (doubled 8 (doubled 4 (doubled 2 (doubled 1 this)))) (start % 2 * 65535)
    (doubled-lt 8 (doubled 4 (doubled 2 (doubled 1 this))) (doubled-lt 4 (doubled 2 (doubled 1 this)) (doubled-lt 2 (doubled 1 this) (doubled-lt 1 this small))))
    (omega arith)

bit-of-prefix : (start this i : ℕ) → i < 16 → bit (prefix start this) i ≡ carry start this (suc i)
unfolding prefix
bit-of-prefix start this i inside =
    bit-of-xor (doubled 8 (doubled 4 (doubled 2 (doubled 1 this)))) (start % 2 * 65535) i
    ∙ ap₂ bit_xor
    (upto-doubled this (doubled 4 (doubled 2 (doubled 1 this))) 8 (upto-doubled this (doubled 2 (doubled 1 this)) 4 (upto-doubled this (doubled 1 this) 2 (upto-doubled this this 1 (λ j l. upto-one this j)))) i inside
    ∙ upto-is-carry this 16 i inside)
    (bit-of-spread start i inside)
    ∙ carry-from-start start this (suc i)

pub exclusive-is-prefix : (start this : ℕ) → this < 2 ^ 16 → prefix start this ≡ exclusive start this
unfolding exclusive
exclusive-is-prefix start this small =
    of_bits-is-unique (λ i. carry start this (suc i)) 16 (prefix start this) (prefix-lt start this small) (λ i inside. bit-of-prefix start this i inside)

bit-of-exclusive : (start this i : ℕ) → i < 16 → bit (exclusive start this) i ≡ carry start this (suc i)
unfolding exclusive
bit-of-exclusive start this i inside = bit-of-of_bits (λ i. carry start this (suc i)) 16 (λ i. carry-lt start this (suc i)) i inside

pub exclusive-lt : (start this : ℕ) → exclusive start this < 2 ^ 16
unfolding exclusive
exclusive-lt start this = of_bits-lt (λ i. carry start this (suc i)) 16 (λ i. carry-lt start this (suc i))

pub inclusive-is-or : (start this : ℕ) → this < 2 ^ 16 → bit_or (exclusive start this) this ≡ inclusive start this
unfolding inclusive
inclusive-is-or start this small =
    of_bits-is-unique (λ i. bit_or (carry start this (suc i)) (bit this i)) 16 (bit_or (exclusive start this) this)
    (or_lt 16 (exclusive start this) this (exclusive-lt start this) small)
    (λ i inside. bit-of-or (exclusive start this) this i ∙ ap (λ (n : ℕ). bit_or n (bit this i)) (bit-of-exclusive start this i inside))

inclusive-lt : (start this : ℕ) → inclusive start this < 2 ^ 16
unfolding inclusive
inclusive-lt start this =
    of_bits-lt (λ i. bit_or (carry start this (suc i)) (bit this i)) 16
    (λ i. or_lt 1 (carry start this (suc i)) (bit this i) (carry-lt start this (suc i)) (bit-lt this i))

pub filled-lt : (fill : Fill) (start this : ℕ) → this < 2 ^ 16 → (filled fill start this).word < 2 ^ 16
unfolding filled
filled-lt Off start this small = small
filled-lt Inclusive start this small = inclusive-lt start this
filled-lt Exclusive start this small = exclusive-lt start this

-- the carry that goes on is bit 15 of the exclusive fill
pub carry-is-top-bit : (start this : ℕ) → exclusive start this / 32768 ≡ carry start this 16
carry-is-top-bit start this =
    let small : exclusive start this < 2 ^ 16 = exclusive-lt start this in
    let top : exclusive start this / 32768 ≡ exclusive start this / 32768 % 2 = omega arith in
    top ∙ bit-of-exclusive start this 15 (lit< tt)

pub filled-when-off : (fill : Fill) (start this : ℕ) → fill ≡ Off → ◌≡◌ {A = Filled} (record { word = this; carry = start }) (filled fill start this)
unfolding filled
filled-when-off fill start this way = rw way

pub exclusively-filled : (start this made : ℕ) → made ≡ exclusive start this
    → ◌≡◌ {A = Filled} (record { word = made; carry = made / 32768 }) (filled Exclusive start this)
unfolding filled
exclusively-filled start this made same = rw (same, carry-is-top-bit start this)

pub filled-when-inclusive : (fill : Fill) (start this : ℕ) (made : Filled) → fill ≡ Inclusive → this < 2 ^ 16
    → made ≡ filled Exclusive start this
    → ◌≡◌ {A = Filled} (record { word = bit_or made.word this; carry = made.carry }) (filled fill start this)
unfolding filled
filled-when-inclusive fill start this made way small same = rw (way, same, inclusive-is-or start this small)
