-- Laws of colour numbers in an array: what a word's bits give each pixel, and the loop that lays them.
use Rattle.word.proofs.Base.{◌≡◌, refl, sym, ap, ap₂, ◌∙◌, ℕ, zero, suc, ◌+◌, ◌-◌, ◌*◌, ◌%◌, ◌^◌, ◌<◌, ◌≤◌, dec_lt}
use Rattle.word.proofs.Base.{arith, lt-ltb, le-ltb, eqb, eqb→eq, eqb-true, eqb-false, Bool, true, false, List, length, get_or, set, length-set}
use Rattle.word.proofs.Base.{get_or-set_same, get_or-set_other}
use lib.ListN.{replicate}
use Rattle.word.specs.Word.{bit}
use Rattle.word.proofs.ChoiceLaws.{every-at}
use Rattle.word.proofs.WordLaws.{bit-lt, bit-cases}
use Rattle.playfield.specs.Inner.Numbers.{room, word_pixel, Grown, UpTo}

-- a power of two, as a shift makes it
pub power : (by k : ℕ) → by ≡ k → k < 16 → 1 * 2 ^ by % 2 ^ 16 ≡ 2 ^ k
power by k same small =
    rw same (eqb→eq _ _ (every-at (λ k. eqb (1 * 2 ^ k % 2 ^ 16) (2 ^ k)) 16 tt k small))

-- the pixels of a word's first bits
pub word_pixel-before : (word s n i : ℕ) → i < s → word_pixel word s n i ≡ 0
unfolding word_pixel
word_pixel-before word s n i before = rw (lt-ltb i s before)

pub word_pixel-within : (word s n i : ℕ) → s ≤ i → i < s + n → word_pixel word s n i ≡ bit word (15 - (i - s))
unfolding word_pixel
word_pixel-within word s n i from to = rw (le-ltb i s from, lt-ltb i (s + n) to)

pub word_pixel-behind : (word s n i : ℕ) → s + n ≤ i → word_pixel word s n i ≡ 0
unfolding word_pixel
word_pixel-behind word s n i behind = let from : s ≤ i = omega arith in rw (le-ltb i s from, le-ltb i (s + n) behind)

-- one bit more
word_pixel-next : (word s n i : ℕ) → (i ≡ s + n → ⊥) → word_pixel word s n i ≡ word_pixel word s (n + 1) i
word_pixel-next word s n i other = by (dec_lt i s) (dec_lt i (s + n))
  where
    by : Dec (i < s) → Dec (i < s + n) → word_pixel word s n i ≡ word_pixel word s (n + 1) i
    by (yes before) end = word_pixel-before word s n i before ∙ sym (word_pixel-before word s (n + 1) i before)
    by (no from) (yes to) = word_pixel-within word s n i (omega arith) to ∙ sym (word_pixel-within word s (n + 1) i (omega arith) (omega arith))
    by (no from) (no behind) = word_pixel-behind word s n i (omega arith) ∙ sym (word_pixel-behind word s (n + 1) i (omega arith))

pub word_pixel-none : (word s i : ℕ) → word_pixel word s 0 i ≡ 0
word_pixel-none word s i = by (dec_lt i s)
  where
    by : Dec (i < s) → word_pixel word s 0 i ≡ 0
    by (yes before) = word_pixel-before word s 0 i before
    by (no from) = word_pixel-behind word s 0 i (omega arith)

pub bit-times-le : (weight b : ℕ) → b < 2 → b * weight ≤ weight
bit-times-le weight b small = bit-cases (λ b. b * weight ≤ weight) (omega arith) (omega arith) b small

-- numbers that are all nought
pub zeros-small : (n i : ℕ) → get_or (replicate n 0) i 0 ≤ 0
zeros-small zero i = omega arith
zeros-small (suc n) zero = omega arith
zeros-small (suc n) (suc i) = zeros-small n i

-- nothing is laid
pub grown-none : (weight : ℕ) (pixel : ℕ → ℕ) (numbers : List ℕ) → length numbers ≡ room → ((i : ℕ) → pixel i ≡ 0) → Grown weight pixel numbers numbers
grown-none weight pixel numbers long none = record { long = long; each = λ i. rw (none i) (omega arith) }

-- a turn of the loop that lays a word's bits
module _ (weight word s n : ℕ) (before numbers : List ℕ) (so_far : Grown weight (word_pixel word s n) before numbers) where
  word_kept : get_or numbers (s + n) 0 ≡ get_or before (s + n) 0
  word_kept = so_far.each (s + n) ∙ rw (word_pixel-behind word s n (s + n) (omega arith)) (omega arith)

  word_next : word_pixel word s (n + 1) (s + n) ≡ bit word (15 - n)
  word_next =
      let place : s + n - s ≡ n = omega arith in
      word_pixel-within word s (n + 1) (s + n) (omega arith) (omega arith) ∙ ap (λ (k : ℕ). bit word (15 - k)) place

  -- a number and what a pixel adds to it are small
  pub word_sum : (at most share : ℕ) → at ≡ s + n → UpTo most before → share ≡ bit word (15 - n) * weight → get_or numbers at 0 + share ≤ most + weight
  word_sum at most share there small is =
      rw there (omega (arith, small (s + n), word_kept, is, bit-times-le weight (bit word (15 - n)) (bit-lt word (15 - n))))

  pub word-turn : (at share sum : ℕ) → at ≡ s + n → s + n < room → share ≡ bit word (15 - n) * weight → sum ≡ get_or numbers at 0 + share
      → Grown weight (word_pixel word s (n + 1)) before (set numbers at sum)
  word-turn at share sum there here is gives =
      rw there (record { long = length-set numbers (s + n) sum ∙ so_far.long; each = λ i. by i (eqb i (s + n)) refl })
    where
      adds : sum ≡ get_or numbers (s + n) 0 + share
      adds = gives ∙ ap (λ (at : ℕ). get_or numbers at 0 + share) there

      by : (i : ℕ) → (same : Bool) → eqb i (s + n) ≡ same → get_or (set numbers (s + n) sum) i 0 ≡ get_or before i 0 + word_pixel word s (n + 1) i * weight
      by i true same =
          let at : i ≡ s + n = eqb-true i (s + n) same in
          rw at (get_or-set_same numbers (s + n) sum 0 (omega (arith, so_far.long)) ∙ adds
          ∙ ap₂ ◌+◌ word_kept (is ∙ ap (λ (pixel : ℕ). pixel * weight) (sym word_next)))
      by i false other =
          get_or-set_other numbers (s + n) i sum 0 (eqb-false i (s + n) other) ∙ so_far.each i
          ∙ ap (λ (pixel : ℕ). get_or before i 0 + pixel * weight) (word_pixel-next word s n i (eqb-false i (s + n) other))
