-- Laws of rows that lie inside memory: where none goes round, the first and the last tell for those between.
use Rattle.word.proofs.Base.{◌≡◌, sym, subst, ℕ, suc, ◌+◌, ◌-◌, ◌*◌, ◌<◌, ◌≤◌, mul-le-mul_right, arith, Bool}
use Rattle.word.proofs.Base.{true, false, ◌&&◌, T, eqb, leb, eqb-true, leb-true}
use native.Mathlib.Nat.{lt_of_lt_of_le}
use Rattle.word.specs.declared.types.Direction.{Direction}
use Rattle.word.specs.declared.types.Direction.TheVariants.{Ascending, Descending}
use Rattle.word.specs.declared.types.Pointer.{Pointer}
use Rattle.word.specs.Repeat.{repeated}
use Rattle.word.specs.Pointer.{pointer_end, next_row}
use Rattle.word.specs.Inner.Even.{RowInside, RowsInside, SpanInside}
use Rattle.word.proofs.ChoiceLaws.{and_left, and_right}
use Rattle.word.proofs.StrideLaws.{origin, rows-lt, rows-upward, rows-downward}

RowInside-grows : (end n : ℕ) (direction : Direction) (width : ℕ) (pointer : Pointer) → end ≤ n
    → RowInside end direction width pointer → RowInside n direction width pointer
unfolding RowInside
RowInside-grows end n Ascending width pointer fits inside = omega arith
RowInside-grows end n Descending width pointer fits inside = (omega (arith, inside), inside.1)

RowInside-lt : (n : ℕ) (direction : Direction) (width : ℕ) (pointer : Pointer) → 1 ≤ width
    → RowInside n direction width pointer → pointer.word < n
unfolding RowInside
RowInside-lt n Ascending width pointer some inside = omega arith
RowInside-lt n Descending width pointer some inside = inside.0

RowInside-of-word : (n : ℕ) (direction : Direction) (width : ℕ) (pointer : Pointer) → width ≡ 1 → pointer.word < n
    → RowInside n direction width pointer
unfolding RowInside
RowInside-of-word n Ascending width pointer one inside = omega arith
RowInside-of-word n Descending width pointer one inside = (inside, omega arith)

-- where a row that starts between the first and the last lies inside, every row does
module _ (n end : ℕ) (direction : Direction) (width modulo rows : ℕ) (pointer : Pointer) (words far : ℕ) (inside : Bool)
    (fits : end ≤ n) (reach : end ≤ pointer_end) (some : 1 ≤ width) (narrow : width ≤ 64) (small : pointer.word < pointer_end)
    (even : words ≡ (next_row direction width modulo origin).word) where
  pub RowsInside-upward : far ≡ (rows - 1) * words
      → (inside ≡ true → SpanInside end direction width pointer.word (pointer.word + far))
      → inside ≡ true → RowsInside n direction width modulo rows pointer
  unfolding RowsInside SpanInside
  RowsInside-upward apart told holds k below =
      let end_row : Pointer = record { word = pointer.word + far } in
      let last : pointer.word + far < end = RowInside-lt end direction width end_row some (told holds end_row (omega arith) (omega arith)) in
      let earlier : k * words ≤ (rows - 1) * words = mul-le-mul_right words (omega arith) in
      let here : (repeated (λ _. next_row direction width modulo) k pointer).word ≡ pointer.word + k * words =
      rw even (rows-upward direction width modulo narrow k pointer (rw (← even) (omega arith))) in
      RowInside-grows end n direction width _ fits (told holds _ (omega (arith, here)) (omega (arith, here)))

  pub RowsInside-downward : far ≡ (rows - 1) * (pointer_end - words) → far ≤ pointer.word
      → (inside ≡ true → SpanInside end direction width (pointer.word - far) pointer.word)
      → inside ≡ true → RowsInside n direction width modulo rows pointer
  unfolding RowsInside SpanInside
  RowsInside-downward apart above told holds k below =
      let earlier : k * (pointer_end - words) ≤ (rows - 1) * (pointer_end - words) = mul-le-mul_right (pointer_end - words) (omega arith) in
      let here : (repeated (λ _. next_row direction width modulo) k pointer).word + k * (pointer_end - words) ≡ pointer.word =
      rw even (rows-downward direction width modulo narrow k pointer small (rw (← even) (omega arith))) in
      RowInside-grows end n direction width _ fits (told holds _ (omega (arith, here)) (omega (arith, here)))

-- an answer of false promises nothing
pub nothing-promised : {Promise : Type 0} → false ≡ true → Promise
nothing-promised never = absurd (subst T (sym never) tt)

-- what a test tells of the rows that start in a span
module _ (n : ℕ) (direction : Direction) (width lowest highest : ℕ) where
  pub SpanInside-when-ascending : direction ≡ Ascending → leb (highest + width) n ≡ true → SpanInside n direction width lowest highest
  unfolding SpanInside RowInside
  SpanInside-when-ascending way fits =
      let end = leb-true (highest + width) n fits in
      rw way (λ pointer above below. omega arith)

  pub SpanInside-when-descending : direction ≡ Descending → highest < n → leb width (lowest + 1) ≡ true → SpanInside n direction width lowest highest
  unfolding SpanInside RowInside
  SpanInside-when-descending way first fits =
      let start = leb-true width (lowest + 1) fits in
      rw way (λ pointer above below. (omega arith, omega arith))

module _ (n : ℕ) (direction : Direction) (width modulo rows : ℕ) (pointer : Pointer) where
  -- a row of one word lies inside memory that no pointer leaves
  pub RowsInside-of-columns : pointer.word < pointer_end → (leb pointer_end n && eqb width 1) ≡ true → RowsInside n direction width modulo rows pointer
  unfolding RowsInside
  RowsInside-of-columns small holds k below =
      let long = leb-true pointer_end n (and_left (leb pointer_end n) (eqb width 1) holds) in
      let narrow = eqb-true width 1 (and_right (leb pointer_end n) (eqb width 1) holds) in
      RowInside-of-word n direction width _ narrow (lt_of_lt_of_le (rows-lt direction width modulo k pointer small) long)

  pub RowsInside-turn : (next : Pointer) → 0 < rows → next ≡ next_row direction width modulo pointer
      → RowsInside n direction width modulo rows pointer → RowsInside n direction width modulo (rows - 1) next
  unfolding RowsInside repeated
  RowsInside-turn next more turn inside k below = rw turn (inside (suc k) (omega arith))

  pub RowsInside-first : 0 < rows → RowsInside n direction width modulo rows pointer → RowInside n direction width pointer
  unfolding RowsInside repeated
  RowsInside-first more inside = inside 0 more
