-- `playfield::share` meets its contract: a word masked to one bit is nought where that bit is.
use Rattle.word.proofs.Base.{◌≡◌, sym, ap, ◌∙◌, ℕ, ◌+◌, ◌-◌, ◌*◌, ◌^◌, one-add, arith, bit_and}
use lib.Bits.{and_high}
use lib.Pow.{pow_pos}
use native.Mathlib.Nat.{pow-succ'}
use Rattle.word.specs.Word.{bit}
use Rattle.word.proofs.WordLaws.{bit-lt, bit-cases}
use Rattle.playfield.proofs.share.Goals as goal

-- a word masked to one bit
and-of-bit : (word k : ℕ) → bit_and word (2 ^ k) ≡ bit word k * 2 ^ k
and-of-bit word k =
    let doubled : 2 ^ (1 + k) ≡ 2 * 2 ^ k = ap (λ (e : ℕ). 2 ^ e) (one-add k) ∙ pow-succ' 2 k in
    let one : 2 ^ k ≡ 2 ^ (1 + k) - 2 ^ k = omega (arith, doubled) in
    ap (bit_and word) one ∙ and_high word 1 k

module _ (word pixel weight mask : ℕ) (is : mask ≡ 2 ^ (15 - pixel)) where
  masked : bit_and word mask ≡ bit word (15 - pixel) * 2 ^ (15 - pixel)
  masked = rw is (and-of-bit word (15 - pixel))

  share-of-none : bit_and word mask ≡ 0 → 0 ≡ bit word (15 - pixel) * weight
  share-of-none none =
      bit-cases (λ b. b * 2 ^ (15 - pixel) ≡ 0 → 0 ≡ b * weight) (λ _. omega arith)
      (λ set. absurd (omega (arith, set, pow_pos (15 - pixel)))) (bit word (15 - pixel)) (bit-lt word (15 - pixel)) (sym masked ∙ none)

  share-of-some : (bit_and word mask ≡ 0 → ⊥) → weight ≡ bit word (15 - pixel) * weight
  share-of-some some =
      bit-cases (λ b. (b * 2 ^ (15 - pixel) ≡ 0 → ⊥) → weight ≡ b * weight) (λ clear. absurd (clear (omega arith)))
      (λ _. omega arith) (bit word (15 - pixel)) (bit-lt word (15 - pixel)) (λ none. some (masked ∙ none))

pub returns-then-word-one_bit-eq0 : goal.returns-then-word-one_bit-eq0
returns-then-word-one_bit-eq0 c = search share-of-none

pub returns : goal.returns
returns c = search share-of-some
