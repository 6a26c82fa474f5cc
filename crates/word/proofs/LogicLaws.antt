-- Laws of the logic function: picking one of two words bit by bit, `y ^ (s & (y ^ x))`, and the tree of seven picks that computes it.
use Rattle.word.proofs.Base.{◌≡◌, refl, sym, ap, ℕ, zero, suc, ◌+◌, ◌*◌, ◌/◌, ◌%◌, ◌^◌, ◌<◌, arith}
use Rattle.word.proofs.Base.{bit_and, bit_xor}
use native.Mathlib.Nat.{div-one}
use lib.Bits.{and_lt, xor_lt, xor_zero_r}
use Rattle.word.specs.Word.{bit}
use Rattle.word.specs.Logic.{logic}
use Rattle.word.proofs.WordLaws.{bit-lt, bit-of-and, bit-of-xor, bit-of-spread, bit-of-of_bits, of_bits-lt, of_bits-is-unique, bit-cases}

-- this where the bits of by are 1, other where they are 0
unfoldable pub picked : (by this other : ℕ) → ℕ
picked by this other = bit_xor other (bit_and by (bit_xor other this))

pub picked-lt : (by this other : ℕ) → by < 2 ^ 16 → this < 2 ^ 16 → other < 2 ^ 16 → picked by this other < 2 ^ 16
unfolding picked
picked-lt by this other small these others =
    xor_lt 16 other (bit_and by (bit_xor other this)) others (and_lt 16 by (bit_xor other this) small (xor_lt 16 other this others these))

-- the pick of single bits
chosen : (by this other : ℕ) → ℕ
chosen zero this other = other
chosen (suc by) this other = this

picked-of-bits : (by this other : ℕ) → by < 2 → this < 2 → other < 2 → picked by this other ≡ chosen by this other
unfolding picked chosen
picked-of-bits by this other small these others =
    bit-cases (λ by. picked by this other ≡ chosen by this other) (xor_zero_r other)
    (bit-cases (λ this. picked 1 this other ≡ this)
    (bit-cases (λ other. picked 1 0 other ≡ 0) refl refl other others)
    (bit-cases (λ other. picked 1 1 other ≡ 1) refl refl other others) this these) by small

bit-of-picked : (by this other i : ℕ) → bit (picked by this other) i ≡ chosen (bit by i) (bit this i) (bit other i)
unfolding picked
bit-of-picked by this other i =
    simp (bit-of-xor, bit-of-and)
    (picked-of-bits (bit by i) (bit this i) (bit other i) (bit-lt by i) (bit-lt this i) (bit-lt other i))

-- c, then b, then a picks one of two; m i is what the setting i gives
abbrev pub tree : (a b c m0 m1 m2 m3 m4 m5 m6 m7 : ℕ) → ℕ
tree a b c m0 m1 m2 m3 m4 m5 m6 m7 =
    picked a (picked b (picked c m7 m6) (picked c m5 m4)) (picked b (picked c m3 m2) (picked c m1 m0))

-- on single bits the tree finds the function's bit 4a + 2b + c
tree-of-bits : (f a b c : ℕ) → a < 2 → b < 2 → c < 2
    → chosen a (chosen b (chosen c (f / 128 % 2) (f / 64 % 2)) (chosen c (f / 32 % 2) (f / 16 % 2))) (chosen b (chosen c (f / 8 % 2) (f / 4 % 2)) (chosen c (f / 2 % 2) (f % 2)))
    ≡ bit f (4 * a + 2 * b + c)
unfolding chosen
tree-of-bits f a b c ha hb hc =
    bit-cases (λ a. chosen a (chosen b (chosen c (f / 128 % 2) (f / 64 % 2)) (chosen c (f / 32 % 2) (f / 16 % 2))) (chosen b (chosen c (f / 8 % 2) (f / 4 % 2)) (chosen c (f / 2 % 2) (f % 2))) ≡ bit f (4 * a + 2 * b + c))
    (bit-cases (λ b. chosen b (chosen c (f / 8 % 2) (f / 4 % 2)) (chosen c (f / 2 % 2) (f % 2)) ≡ bit f (0 + 2 * b + c))
    (bit-cases (λ c. chosen c (f / 2 % 2) (f % 2) ≡ bit f (0 + c)) (ap (λ (x : ℕ). x % 2) (sym (div-one f))) refl c hc)
    (bit-cases (λ c. chosen c (f / 8 % 2) (f / 4 % 2) ≡ bit f (2 + c)) refl refl c hc) b hb)
    (bit-cases (λ b. chosen b (chosen c (f / 128 % 2) (f / 64 % 2)) (chosen c (f / 32 % 2) (f / 16 % 2)) ≡ bit f (4 + 2 * b + c))
    (bit-cases (λ c. chosen c (f / 32 % 2) (f / 16 % 2) ≡ bit f (4 + c)) refl refl c hc)
    (bit-cases (λ c. chosen c (f / 128 % 2) (f / 64 % 2) ≡ bit f (6 + c)) refl refl c hc) b hb)
    a ha

spread-lt : (x : ℕ) → x % 2 * 65535 < 2 ^ 16
spread-lt x = omega arith

pub logic-is-tree : (f a b c : ℕ) → a < 2 ^ 16 → b < 2 ^ 16 → c < 2 ^ 16
    → tree a b c (f % 2 * 65535) (f / 2 % 2 * 65535) (f / 4 % 2 * 65535) (f / 8 % 2 * 65535) (f / 16 % 2 * 65535) (f / 32 % 2 * 65535) (f / 64 % 2 * 65535) (f / 128 % 2 * 65535)
    ≡ logic f a b c
unfolding logic
logic-is-tree f a b c ha hb hc =
    of_bits-is-unique (λ i. bit f (4 * bit a i + 2 * bit b i + bit c i)) 16 _ (search (picked-lt, spread-lt))
    (λ i h. simp (bit-of-picked, bit-of-spread) (tree-of-bits f (bit a i) (bit b i) (bit c i) (bit-lt a i) (bit-lt b i) (bit-lt c i)))

-- each bit by the sources' bits
pub bit-of-logic : (f a b c i : ℕ) → i < 16 → bit (logic f a b c) i ≡ bit f (4 * bit a i + 2 * bit b i + bit c i)
unfolding logic
bit-of-logic f a b c i inside = bit-of-of_bits (λ i. bit f (4 * bit a i + 2 * bit b i + bit c i)) 16 (λ i. bit-lt f (4 * bit a i + 2 * bit b i + bit c i)) i inside

pub logic-lt : (f a b c : ℕ) → logic f a b c < 2 ^ 16
unfolding logic
logic-lt f a b c = of_bits-lt (λ i. bit f (4 * bit a i + 2 * bit b i + bit c i)) 16 (λ i. bit-lt f (4 * bit a i + 2 * bit b i + bit c i))

-- function F0 gives A
f0-of-bits : (a b c : ℕ) → a < 2 → b < 2 → c < 2 → a ≡ bit 0xF0 (4 * a + 2 * b + c)
f0-of-bits a b c ha hb hc =
    bit-cases (λ a. a ≡ bit 0xF0 (4 * a + 2 * b + c))
    (bit-cases (λ b. 0 ≡ bit 0xF0 (0 + 2 * b + c)) (bit-cases (λ c. 0 ≡ bit 0xF0 (0 + c)) refl refl c hc) (bit-cases (λ c. 0 ≡ bit 0xF0 (2 + c)) refl refl c hc) b hb)
    (bit-cases (λ b. 1 ≡ bit 0xF0 (4 + 2 * b + c)) (bit-cases (λ c. 1 ≡ bit 0xF0 (4 + c)) refl refl c hc) (bit-cases (λ c. 1 ≡ bit 0xF0 (6 + c)) refl refl c hc) b hb)
    a ha

pub logic-of-f0 : (a b c : ℕ) → a < 2 ^ 16 → logic 0xF0 a b c ≡ a
unfolding logic
logic-of-f0 a b c small =
    sym (of_bits-is-unique (λ i. bit 0xF0 (4 * bit a i + 2 * bit b i + bit c i)) 16 a small
    (λ i inside. f0-of-bits (bit a i) (bit b i) (bit c i) (bit-lt a i) (bit-lt b i) (bit-lt c i)))
