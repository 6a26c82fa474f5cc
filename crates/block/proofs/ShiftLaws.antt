-- Laws of the shift of an array's words.
use Rattle.word.proofs.Base.{◌≡◌, sym, ap, ◌∙◌, ℕ, zero, suc, ◌+◌, ◌-◌, ◌*◌, ◌/◌, ◌%◌, ◌^◌, ◌<◌, arith}
use Rattle.word.proofs.Base.{subst, dec_lt, List, get_or}
use Rattle.word.specs.declared.types.Direction.{Direction}
use Rattle.word.specs.declared.types.Direction.TheVariants.{Ascending, Descending}
use Rattle.word.specs.Shift.{shifted}
use Rattle.word.proofs.ShiftLaws.{shifted-by-zero}
use Rattle.quiet.specs.Words.{word_before, shifted_at}
use Rattle.block.specs.Inner.Each.{at, Each}

-- a shift by nought
pub shift-of-nought : (direction : Direction) (by earlier n : ℕ) (words : List ℕ) → by ≡ 0 → earlier < 65536 → ((j : ℕ) → get_or words j 0 < 65536)
    → Each n words (shifted_at direction by earlier (at words))
unfolding Each shifted_at at word_before
shift-of-nought direction by earlier n words none before small j below =
    rw none (sym (shifted-by-zero direction (word_before earlier (at words) j) (get_or words j 0) (first j) (small j)))
  where
    first : (j : ℕ) → word_before earlier (at words) j < 65536
    first zero = before
    first (suc j) = small j

-- what holds for each number below another
abbrev Below : (ℕ → Type 0) → ℕ → Type 0
Below Holds zero = Unit
Below Holds (suc n) = Below Holds n × Holds n

below : (Holds : ℕ → Type 0) (most n : ℕ) → n < most → Below Holds most → Holds n
below Holds zero n small all = absurd (omega arith)
below Holds (suc most) n small all = by (dec_lt n most) (λ earlier. below Holds most n earlier all.0)
  where
    by : Dec (n < most) → (n < most → Holds n) → Holds n
    by (yes earlier) found = found earlier
    by (no last) found = subst Holds (omega arith) all.1

-- the earlier word's low bits, where they belong
low_bits : (n earlier : ℕ) → n < 16 → earlier < 65536 → earlier * 2 ^ 1 % 2 ^ 16 * 2 ^ (15 - n) % 2 ^ 16 ≡ earlier % 2 ^ n * 2 ^ (16 - n)
low_bits n earlier few before =
    below (λ (n : ℕ). earlier * 2 ^ 1 % 2 ^ 16 * 2 ^ (15 - n) % 2 ^ 16 ≡ earlier % 2 ^ n * 2 ^ (16 - n))
    16 n few (search arith depth 20)

pair-bits : (n earlier this : ℕ) → n < 16 → earlier < 65536 → this < 65536 → this / 2 ^ n + earlier % 2 ^ n * 2 ^ (16 - n) ≡ shifted Ascending n earlier this
pair-bits n earlier this few before now =
    below (λ (n : ℕ). this / 2 ^ n + earlier % 2 ^ n * 2 ^ (16 - n) ≡ shifted Ascending n earlier this)
    16 n few (search arith depth 20)

pub drawn-up : (n earlier this : ℕ) → n < 16 → earlier < 65536 → this < 65536
    → this / 2 ^ n + earlier * 2 ^ 1 % 2 ^ 16 * 2 ^ (15 - n) % 2 ^ 16 ≡ shifted Ascending n earlier this
drawn-up n earlier this few before now =
    ap (λ (bits : ℕ). this / 2 ^ n + bits) (low_bits n earlier few before) ∙ pair-bits n earlier this few before now

pub drawn-down : (n earlier this : ℕ) → n < 16 → earlier < 65536 → this < 65536
    → this * 2 ^ n % 2 ^ 16 + earlier / 2 ^ 1 / 2 ^ (15 - n) ≡ shifted Descending n earlier this
drawn-down n earlier this few before now =
    below (λ (n : ℕ). this * 2 ^ n % 2 ^ 16 + earlier / 2 ^ 1 / 2 ^ (15 - n) ≡ shifted Descending n earlier this)
    16 n few (search arith depth 20)
