-- The carries along rows of words that have been filled by themselves. A carry that comes to a word turns all its bits
-- over, so it is kept spread over a word.
use Rattle.std.specs.Prelude.{ℕ, ◌+◌, ◌-◌, ◌*◌, ◌%◌, ◌<◌, ◌≤◌, ◌≡◌, List, get_or}
use Rattle.word.specs.declared.types.Fill.TheVariants.{Exclusive}
use Rattle.quiet.specs.Words.{word_before, filled_at}
use Rattle.block.specs.Inner.Each.{Each, Kept, prefix_at, filled_word_at}

-- what turns word i of the row that starts at word s over
unfoldable pub over_in : (start width s : ℕ) → (word : ℕ → ℕ) → (i : ℕ) → ℕ
over_in start width s word i = word_before (start % 2 * 65535) (λ i. (filled_at Exclusive start width word (s + i)).carry * 65535) i

-- the first i words of that row, where the rows before it are filled
pub record RowFilled (start width s i over : ℕ) (words before : List ℕ) : Type 0 where
  pub kept : Kept (s + i) words before
  pub fills : (word : ℕ → ℕ) (row : ℕ) → s ≡ row * width → ((j : ℕ) → word j < 65536)
      → ((i : ℕ) → i < width → get_or before (s + i) 0 ≡ prefix_at word (s + i)) → Each s before (filled_word_at Exclusive start width word)
      → Each (s + i) words (filled_word_at Exclusive start width word) × (over ≡ over_in start width s word i)

-- the first s words of n, and the last one's carry
pub record RowsFilled (start width n s over : ℕ) (words before : List ℕ) : Type 0 where
  pub kept : Kept s words before
  pub fills : (word : ℕ → ℕ) → ((j : ℕ) → word j < 65536) → Each n before (prefix_at word)
      → Each s words (filled_word_at Exclusive start width word)
      × (1 ≤ s → over ≡ (filled_at Exclusive start width word (s - 1)).carry * 65535)
