-- Where a channel's rows lie in memory. The words that a blit touches are defined by the pointer's own moves; this is
-- the promise of a quick look at a channel's first and last row, for what calls it, and no blit is defined by it.
use Rattle.std.specs.Prelude.{ℕ, ◌+◌, ◌<◌, ◌≤◌}
use Rattle.word.specs.declared.types.Direction.{Direction}
use Rattle.word.specs.declared.types.Direction.TheVariants.{Ascending, Descending}
use Rattle.word.specs.declared.types.Pointer.{Pointer}
use Rattle.word.specs.Repeat.{repeated}
use Rattle.word.specs.Pointer.{next_row}

-- a row lies inside memory of n words, and doesn't go round
unfoldable pub RowInside : (n : ℕ) → Direction → (width : ℕ) → Pointer → Type 0
RowInside n Ascending width pointer = pointer.word + width ≤ n
RowInside n Descending width pointer = (pointer.word < n) × (width ≤ pointer.word + 1)

-- each of a channel's rows does
unfoldable pub RowsInside : (n : ℕ) → Direction → (width modulo rows : ℕ) → Pointer → Type 0
RowsInside n direction width modulo rows pointer =
    (k : ℕ) → k < rows → RowInside n direction width (repeated (λ _. next_row direction width modulo) k pointer)

-- a row does that starts anywhere from the lowest word to the highest
unfoldable pub SpanInside : (n : ℕ) → Direction → (width lowest highest : ℕ) → Type 0
SpanInside n direction width lowest highest =
    (pointer : Pointer) → lowest ≤ pointer.word → pointer.word ≤ highest → RowInside n direction width pointer
