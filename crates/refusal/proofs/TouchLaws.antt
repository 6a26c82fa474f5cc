-- Laws of the words that a channel touches: a row tells for the rest.
use Rattle.word.proofs.Base.{◌≡◌, refl, sym, ap, subst, ◌∙◌, ℕ, zero, suc, ◌+◌, ◌-◌, ◌<◌, ◌≤◌, sub-one, arith, Bool}
use Rattle.word.proofs.Base.{true, false, not, not-true, not-false, ◌||◌, leb, lt-leb, le-ltb, List, [], ◌∷◌, ◌++◌}
use mathlib.Core.Bool.{and-false, or_assoc}
use Rattle.word.specs.declared.types.Direction.{Direction}
use Rattle.word.specs.declared.types.Direction.TheVariants.{Ascending, Descending}
use Rattle.word.specs.declared.types.Pointer.{Pointer}
use Rattle.word.specs.Pointer.{pointer_end, moved, next_row}
use Rattle.word.specs.Inner.Even.{RowInside, RowsInside}
use Rattle.word.proofs.EvenLaws.{RowsInside-first, RowsInside-turn}
use Rattle.word.proofs.PointerLaws.{moved-lt, next_row-lt}
use Rattle.refusal.specs.Touch.{row_touches, touches, leaves, channel_leaves}
use Rattle.refusal.proofs.RowTouchLaws.{leaves-upward, leaves-downward}

pub leaves-of-append : (n : ℕ) (first rest : List ℕ) → leaves n (first ++ rest) ≡ (leaves n first || leaves n rest)
unfolding leaves
leaves-of-append n [] rest = refl
leaves-of-append n (word ∷ first) rest =
    ap (λ (later : Bool). leb n word || later) (leaves-of-append n first rest)
    ∙ sym (or_assoc (leb n word) (leaves n first) (leaves n rest))

-- the rows from one on: it tells, or those after it do
leaves-of-rows : (n : ℕ) (direction : Direction) (width modulo rows row : ℕ) (here : Pointer) → row < rows
    → leaves n (touches direction width modulo (rows - row) here)
    ≡ (leaves n (row_touches direction width here) || leaves n (touches direction width modulo (rows - (row + 1)) (next_row direction width modulo here)))
unfolding touches
leaves-of-rows n direction width modulo rows row here more =
    let left : rows - row ≡ suc (rows - (row + 1)) = omega arith in
    rw left
    (leaves-of-append n (row_touches direction width here) (touches direction width modulo (rows - (row + 1)) (next_row direction width modulo here)))

-- the rows from one on tell what all tell
module _ (n : ℕ) (direction : Direction) (width modulo rows row : ℕ) (here : Pointer) (whole : Bool)
    (same : leaves n (touches direction width modulo (rows - row) here) ≡ whole) where
  module _ (more : row < rows) (outside : Bool) (of-row : outside ≡ leaves n (row_touches direction width here)) where
    -- a row that leaves decides
    pub touches-when-row-leaves : outside ≡ true → true ≡ whole
    touches-when-row-leaves leave =
        ap (λ (first : Bool). first || leaves n (touches direction width modulo (rows - (row + 1)) (next_row direction width modulo here))) (sym leave ∙ of-row)
        ∙ sym (leaves-of-rows n direction width modulo rows row here more)
        ∙ same

    -- a row inside is passed
    pub touches-turn : (next : Pointer) → outside ≡ false → next ≡ next_row direction width modulo here
        → leaves n (touches direction width modulo (rows - (row + 1)) next) ≡ whole
    touches-turn next stay turn =
        rw turn
        (ap (λ (first : Bool). first || leaves n (touches direction width modulo (rows - (row + 1)) (next_row direction width modulo here))) (sym stay ∙ of-row)
        ∙ sym (leaves-of-rows n direction width modulo rows row here more)
        ∙ same)

  pub touches-done : rows ≤ row → false ≡ whole
  unfolding touches leaves
  touches-done end = let none : rows - row ≡ 0 = omega arith in rw none at same

-- no pointer leaves memory of 262,144 words or more
row_stays : (n : ℕ) (direction : Direction) (width : ℕ) (pointer : Pointer) → pointer_end ≤ n → pointer.word < pointer_end
    → leaves n (row_touches direction width pointer) ≡ false
unfolding leaves row_touches
row_stays n direction zero pointer long small = refl
row_stays n direction (suc remaining) pointer long small =
    rw (lt-leb n pointer.word (omega arith)) (row_stays n direction remaining (moved direction pointer) long (moved-lt direction pointer))

pub touches-stay : (n : ℕ) (direction : Direction) (width modulo rows : ℕ) (pointer : Pointer) → pointer_end ≤ n → pointer.word < pointer_end
    → leaves n (touches direction width modulo rows pointer) ≡ false
unfolding touches leaves
touches-stay n direction width modulo zero pointer long small = refl
touches-stay n direction width modulo (suc remaining) pointer long small =
    leaves-of-append n (row_touches direction width pointer) (touches direction width modulo remaining (next_row direction width modulo pointer))
    ∙ rw (row_stays n direction width pointer long small)
    (touches-stay n direction width modulo remaining (next_row direction width modulo pointer) long (next_row-lt direction width modulo pointer))

-- rows that lie inside leave nowhere
row-inside-stays : (n : ℕ) (direction : Direction) (width : ℕ) (pointer : Pointer) → n < pointer_end → pointer.word < pointer_end → 1 ≤ width
    → RowInside n direction width pointer → leaves n (row_touches direction width pointer) ≡ false
unfolding RowInside
row-inside-stays n Ascending width pointer short small some inside =
    sym (leaves-upward n width pointer short small some) ∙ le-ltb n (pointer.word + width) inside
row-inside-stays n Descending width pointer short small some (first, round) =
    sym (leaves-downward n width pointer short small some)
    ∙ rw (lt-leb n pointer.word first) (le-ltb (pointer.word + 1) width round)

pub touches-inside : (n : ℕ) (direction : Direction) (width modulo rows : ℕ) (pointer : Pointer)
    → n < pointer_end → pointer.word < pointer_end → 1 ≤ width
    → RowsInside n direction width modulo rows pointer → leaves n (touches direction width modulo rows pointer) ≡ false
unfolding touches leaves
touches-inside n direction width modulo zero pointer short small some inside = refl
touches-inside n direction width modulo (suc remaining) pointer short small some inside =
    leaves-of-append n (row_touches direction width pointer) (touches direction width modulo remaining (next_row direction width modulo pointer))
    ∙ rw (row-inside-stays n direction width pointer short small some (RowsInside-first n direction width modulo (suc remaining) pointer (omega arith) inside))
    (touches-inside n direction width modulo remaining (next_row direction width modulo pointer) short (next_row-lt direction width modulo pointer) some
    (subst (λ (rest : ℕ). RowsInside n direction width modulo rest (next_row direction width modulo pointer)) (sub-one (suc remaining))
    (RowsInside-turn n direction width modulo (suc remaining) pointer (next_row direction width modulo pointer) (omega arith) refl inside)))

module _ (n : ℕ) (direction : Direction) (used : Bool) (width modulo rows : ℕ) (pointer : Pointer) where
  pub channel_leaves-when-used : (outside : Bool) → not used ≡ false → outside ≡ leaves n (touches direction width modulo rows pointer)
      → outside ≡ channel_leaves n direction used width modulo rows pointer
  unfolding channel_leaves
  channel_leaves-when-used outside uses same = rw (not-false used uses) same

  pub channel_leaves-at-end : pointer_end ≤ n → pointer.word < pointer_end
      → false ≡ channel_leaves n direction used width modulo rows pointer
  unfolding channel_leaves
  channel_leaves-at-end long small = rw (touches-stay n direction width modulo rows pointer long small) (sym (and-false used))

  pub channel_leaves-when-inside : (inside : Bool) → n < pointer_end → pointer.word < pointer_end → 1 ≤ width
      → (inside ≡ true → RowsInside n direction width modulo rows pointer) → inside ≡ true
      → false ≡ channel_leaves n direction used width modulo rows pointer
  unfolding channel_leaves
  channel_leaves-when-inside inside short small some promised holds =
      rw (touches-inside n direction width modulo rows pointer short small some (promised holds)) (sym (and-false used))

  pub channel_leaves-when-unused : not used ≡ true → false ≡ channel_leaves n direction used width modulo rows pointer
  unfolding channel_leaves
  channel_leaves-when-unused idle = rw (not-true used idle)
