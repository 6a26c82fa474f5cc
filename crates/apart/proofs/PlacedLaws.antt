-- Laws of places: the pointers' own moves, and the sums.
use Rattle.std.specs.Prelude.{if◌then◌else◌}
use Rattle.word.proofs.Base.{◌≡◌, refl, sym, ap, ◌∙◌, ℕ, zero, suc, ◌+◌, ◌*◌, ◌/◌, ◌%◌, ◌<◌, ◌≤◌, mod-lt, add-one}
use Rattle.word.proofs.Base.{arith, Bool, true, false}
use native.Mathlib.Nat.{div-lt_iff_lt-mul}
use Rattle.word.specs.declared.types.Direction.TheVariants.{Ascending, Descending}
use Rattle.word.specs.Repeat.{repeated}
use Rattle.word.specs.Pointer.{pointer_end, moved, passed, next_row}
use Rattle.word.specs.Inner.Even.{RowInside}
use Rattle.word.proofs.ChoiceLaws.{if-either}
use Rattle.word.proofs.PointerLaws.{moves-are-one, next_row-lt}
use Rattle.word.proofs.StrideLaws.{origin, next_row-evenly, rows-lt}
use Rattle.quiet.specs.Stream.{standing, standing_at}
use Rattle.quiet.proofs.StreamLaws.{repeated-last}
use Rattle.block.specs.Inner.Place.{row_at, place_in, place_at, EvenRows}
use Rattle.block.proofs.PlaceLaws.{row_at-first, row_at-next, row_at-from, row_at-lt}
use Rattle.apart.specs.Inner.Placed.{Direction, Pointer, Channel}

-- a row that lies inside doesn't go round
place_in-moves : (n : ℕ) (direction : Direction) (width word : ℕ) (pointer : Pointer) → RowInside n direction width pointer → n ≤ pointer_end → word < width → width ≤ 64
    → (repeated (λ _. moved direction) word pointer).word ≡ place_in direction pointer.word word
unfolding RowInside place_in passed
place_in-moves n Ascending width word pointer inside most short narrow =
    ap (λ (at : Pointer). at.word) (sym (moves-are-one Ascending word pointer (omega arith) (omega arith))) ∙ omega arith
place_in-moves n Descending width word pointer inside most short narrow =
    ap (λ (at : Pointer). at.word) (sym (moves-are-one Descending word pointer (omega (arith, inside)) (omega arith))) ∙ omega (arith, inside)

module _ (direction : Direction) (width modulo : ℕ) (narrow : width ≤ 64) (far : ℕ) (stride : far ≡ (next_row direction width modulo origin).word) where
  -- rows start evenly
  rows-are-even : (row : ℕ) (pointer : Pointer) → pointer.word < pointer_end
      → (repeated (λ _. next_row direction width modulo) row pointer).word ≡ row_at far pointer.word row
  unfolding repeated
  rows-are-even zero pointer small = row_at-first far pointer.word small
  rows-are-even (suc row) pointer small =
      ap (λ (at : Pointer). at.word) (repeated-last (next_row direction width modulo) row pointer)
      ∙ next_row-evenly direction width modulo (repeated (λ _. next_row direction width modulo) row pointer) (rows-lt direction width modulo row pointer small) narrow
      ∙ ap (λ (stride : ℕ). ((repeated (λ _. next_row direction width modulo) row pointer).word + stride) % pointer_end) (sym stride)
      ∙ row_at-next far pointer.word row (repeated (λ _. next_row direction width modulo) row pointer).word (rows-are-even row pointer small)
      ∙ ap (row_at far pointer.word) (add-one row)

module _ (n : ℕ) (direction : Direction) (width rows modulo : ℕ) (used : Bool) (pointer : Pointer) (far : ℕ)
    (channel : Channel n direction width rows modulo used pointer far) (most : n ≤ pointer_end) (some : 1 ≤ width) (narrow : width ≤ 64) where
  pub stride-lt : far < pointer_end
  stride-lt = rw channel.stride (next_row-lt direction width modulo origin)

  -- the place of word k of a used channel
  pub channel-place : used ≡ true → (k : ℕ) → k < rows * width
      → (standing_at direction used width modulo pointer k).word ≡ place_at direction width far pointer.word k
  unfolding standing EvenRows place_at
  channel-place uses k below =
      let start : Pointer = repeated (λ _. next_row direction width modulo) (k / width) pointer in
      let at : start.word ≡ row_at far pointer.word (k / width) =
      rows-are-even direction width modulo narrow far channel.stride (k / width) pointer channel.small in
      let within : k / width < rows = (div-lt_iff_lt-mul {k = width} {x = k} {y = rows} some).1 below in
      rw uses
      (place_in-moves n direction width (k % width) start (rw at (channel.inside uses (k / width) within)) most (mod-lt k {m = width} some) narrow
      ∙ ap (λ (start : ℕ). place_in direction start (k % width)) at)

  -- and where its pointer stands so many rows on
  pub channel-rows : (row : ℕ) → standing direction used width modulo row 0 pointer ≡ (if used then record { word = row_at far pointer.word row } else pointer)
  unfolding standing repeated
  channel-rows row = by used
    where
      by : (used : Bool) → standing direction used width modulo row 0 pointer ≡ (if used then record { word = row_at far pointer.word row } else pointer)
      by true = ap (λ (word : ℕ). record { word = word }) (rows-are-even direction width modulo narrow far channel.stride row pointer channel.small)
      by false = refl

  -- from so many rows on it is placed as it was
  pub channel-on : (row more : ℕ) → row + more ≤ rows → Channel n direction width more modulo used (standing direction used width modulo row 0 pointer) far
  unfolding EvenRows
  channel-on row more fits =
      record {
        stride = channel.stride;
        small = rw (channel-rows row) (if-either (λ (at : Pointer). at.word < pointer_end) used _ _ (row_at-lt far pointer.word row) channel.small);
        inside = λ uses k below. rw (channel-rows row, uses, row_at-from far pointer.word row k) (channel.inside uses (row + k) (omega arith));
      }
