-- Laws of a comparison: a line that lies below the first word's has no place where it is satisfied.
use Rattle.word.proofs.Base.{◌≡◌, sym, ap, ◌∙◌, ℕ, ◌+◌, ◌*◌, ◌/◌, ◌%◌, ◌^◌, ◌<◌, arith, Bool, true, false, leb, ltb}
use Rattle.word.proofs.Base.{lt-leb, leb-false, ltb-true, bit_and}
use lib.Bits.{and_block, and_lt}
use Rattle.beam.specs.Beam.{line, position}
use Rattle.beam.specs.Inner.LineBelow.{line_below}
use Rattle.beam.specs.Satisfied.{mask, compared, satisfied}

pub satisfied-of-parts : (first second place bits number : ℕ) → bits ≡ mask second → number ≡ compared place
    → leb (bit_and first bits) (bit_and number bits) ≡ satisfied first second place
unfolding satisfied
satisfied-of-parts first second place bits number masks compares = rw (masks, compares)

-- a number of two bytes ANDed with another
and-of-bytes : (number bits : ℕ)
    → bit_and number bits ≡ bit_and (number / 256) (bits / 256) * 256 + bit_and (number % 256) (bits % 256)
and-of-bytes number bits =
    let split : number ≡ number / 256 * 2 ^ 8 + number % 256 = omega arith in
    let parts : bits ≡ bits / 256 * 2 ^ 8 + bits % 256 = omega arith in
    ap (λ (this : ℕ). bit_and this bits) split
    ∙ ap (λ (these : ℕ). bit_and (number / 256 * 2 ^ 8 + number % 256) these) parts
    ∙ and_block 8 (number / 256) (bits / 256) (number % 256) (bits % 256) (omega arith) (omega arith)

-- a place's line and position ANDed apart
compared-bytes : (bits place : ℕ)
    → bit_and (compared place) bits ≡ bit_and (line place % 256) (bits / 256) * 256 + bit_and (position place) (bits % 256)
compared-bytes bits place =
    let high : compared place / 256 ≡ line place % 256 = omega arith in
    let low : compared place % 256 ≡ position place = omega arith in
    and-of-bytes (compared place) bits
    ∙ ap (λ (byte : ℕ). bit_and byte (bits / 256) * 256 + bit_and (compared place % 256) (bits % 256)) high
    ∙ ap (λ (byte : ℕ). bit_and (line place % 256) (bits / 256) * 256 + bit_and byte (bits % 256)) low

-- the line's byte decides where it lies below
pub satisfied-on-line-below : (first second place : ℕ)
    → line_below first second (line place) ≡ true
    → satisfied first second place ≡ false
unfolding satisfied
satisfied-on-line-below first second place below =
    let bits : ℕ = mask second in
    let less = ltb-true (bit_and (line place % 256) (bits / 256)) (bit_and (first / 256) (bits / 256)) below in
    let low : bit_and (position place) (bits % 256) < 2 ^ 8 = and_lt 8 (position place) (bits % 256) (omega arith) (omega arith) in
    lt-leb (bit_and first bits) (bit_and (compared place) bits)
    (omega (arith, compared-bytes bits place, and-of-bytes first bits, less, low))

pub line_below-of-mask : (first second place bits : ℕ) → bits ≡ mask second
    → ltb (bit_and (place / 227 % 256) (bits / 256)) (bit_and (first / 256) (bits / 256))
    ≡ line_below first second (line place)
line_below-of-mask first second place bits masks = rw masks

pub satisfied-told : (first second place : ℕ) (holds : Bool) → holds ≡ satisfied first second place → holds ≡ false
    → satisfied first second place ≡ false
satisfied-told first second place holds is fails = sym is ∙ fails

-- on the line of a place that isn't satisfied the position's byte decides: the line lies below or compares alike
pub satisfied-on-line-of : (first second place other : ℕ) → satisfied first second place ≡ false → line other ≡ line place
    → bit_and (position other) (mask second % 256) < bit_and (first % 256) (mask second % 256)
    → satisfied first second other ≡ false
unfolding satisfied
satisfied-on-line-of first second place other fails same low =
    let bits : ℕ = mask second in
    let less = leb-false (bit_and first bits) (bit_and (compared place) bits) fails in
    let byte : (at : ℕ) → bit_and (compared at) bits ≡ bit_and (line at % 256) (bits / 256) * 256 + bit_and (position at) (bits % 256) = compared-bytes bits in
    let alike : bit_and (line other % 256) (bits / 256) ≡ bit_and (line place % 256) (bits / 256) =
    ap (λ (this : ℕ). bit_and (this % 256) (bits / 256)) same in
    let small : bit_and (first % 256) (bits % 256) < 2 ^ 8 = and_lt 8 (first % 256) (bits % 256) (omega arith) (omega arith) in
    lt-leb (bit_and first bits) (bit_and (compared other) bits)
    (omega (arith, less, byte place, byte other, and-of-bytes first bits, alike, small, low))
