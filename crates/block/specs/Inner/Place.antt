-- The places of a channel's words by sums, where no row goes round.
use Rattle.std.specs.Prelude.{ℕ, ◌+◌, ◌-◌, ◌*◌, ◌/◌, ◌%◌, ◌<◌, ◌≤◌, ◌≡◌, List, get_or}
use Rattle.word.specs.declared.types.Direction.{Direction}
use Rattle.word.specs.declared.types.Direction.TheVariants.{Ascending, Descending}
use Rattle.word.specs.Pointer.{pointer_end}
use Rattle.word.specs.Inner.Even.{RowInside}
use Rattle.block.specs.declared.types.Size.{Size}

-- where a row starts, each as far above the one before it
unfoldable pub row_at : (far from row : ℕ) → ℕ
row_at far from row = (from + row * far) % pointer_end

-- so many words into a row
unfoldable pub place_in : Direction → (start word : ℕ) → ℕ
place_in Ascending start word = start + word
place_in Descending start word = start - word

-- that place can be reckoned
abbrev pub Reaches : Direction → (start word : ℕ) → Type 0
Reaches Ascending start word = start + word < 18446744073709551616
Reaches Descending start word = word ≤ start

-- word k of rows of so many words
unfoldable pub place_at : Direction → (width far from k : ℕ) → ℕ
place_at direction width far from k = place_in direction (row_at far from (k / width)) (k % width)

-- so many rows lie inside memory of n words, and none goes round
unfoldable pub EvenRows : (n : ℕ) → Direction → (width far from rows : ℕ) → Type 0
EvenRows n direction width far from rows =
    (row : ℕ) → row < rows → RowInside n direction width (record { word = row_at far from row })

-- they are a block's
pub record Lies (n : ℕ) (direction : Direction) (far from : ℕ) (size : Size) : Type 0 where
  pub inside : EvenRows n direction size.width far from size.height
  pub room : size.height * size.width ≤ 64
  pub some : 1 ≤ size.width
  pub starts : from < pointer_end
  pub strides : far < pointer_end

-- each of them begins where the one before it ends, and none of their words goes round
unfoldable pub Gapless : (n : ℕ) → Direction → (width far from words : ℕ) → Type 0
Gapless n Ascending width far from words = (far ≡ width) × (from + words ≤ n)
Gapless n Descending width far from words = (far + width ≡ pointer_end) × (words ≤ from + 1)

-- rows of another size lie as they do: as many words, each in the same place
pub record AsLying (n : ℕ) (direction : Direction) (far from : ℕ) (size other : Size) : Type 0 where
  pub lies : Lies n direction far from other
  pub count : other.height * other.width ≡ size.height * size.width
  pub same : (k : ℕ) → k < size.height * size.width
      → place_at direction other.width far from k ≡ place_at direction size.width far from k

-- what a channel fetches: word i of a row, and word k of all
unfoldable pub fetched_in : Direction → (memory : List ℕ) → (start i : ℕ) → ℕ
fetched_in direction memory start i = get_or memory (place_in direction start i) 0

unfoldable pub fetched_at : Direction → (width far from : ℕ) → (memory : List ℕ) → (k : ℕ) → ℕ
fetched_at direction width far from memory k = get_or memory (place_at direction width far from k) 0
