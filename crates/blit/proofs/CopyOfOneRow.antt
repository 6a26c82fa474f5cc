-- A copy of one row is the copy of a rectangle, of which no two words lie at one place.
use Rattle.word.proofs.Base.{◌≡◌, sym, ap, ◌∙◌, ℕ, ◌*◌, ◌<◌, ◌≤◌, mod-eq_of_lt, arith, Bool, true, List}
use native.Mathlib.Nat.{div-eq_of_lt}
use Rattle.word.specs.declared.types.Direction.{Direction}
use Rattle.word.specs.declared.types.Direction.TheVariants.{Ascending, Descending}
use Rattle.word.specs.declared.types.Pointer.{Pointer}
use Rattle.word.specs.Repeat.{repeated}
use Rattle.word.specs.Pointer.{pointer_end, passed}
use Rattle.word.specs.Size.{height, width}
use Rattle.word.proofs.PointerLaws.{moves-are-one}
use Rattle.word.proofs.SizeLaws.{width-le}
use Rattle.file.specs.Places.{pointer_d}
use Rattle.file.specs.File.{con1}
use Rattle.area.specs.Setup.{direction, setup}
use Rattle.area.specs.Flow.{pointers, start}
use Rattle.quiet.specs.Stream.{standing, standing_at}
use Rattle.file.proofs.PointersLaws.{pointer_at-lt}
use Rattle.blit.specs.CopyOfOneRow.{plain, spot, CopyOfOneRow}
use Rattle.blit.specs.CopyOfARectangle.{from_a, to_d}
use Rattle.blit.proofs.CopyOfARectangle.{setup-copies, copy-of-a-rectangle}

-- no two words of a row have one spot
spots-differ : (direction : Direction) (i j : ℕ) (pointer : Pointer) → pointer.word < pointer_end → i < 64 → j < i
    → spot direction i pointer ≡ spot direction j pointer → ⊥
unfolding passed
spots-differ Ascending i j pointer small few earlier same =
    let i-at = ap (λ (p : Pointer). p.word) (moves-are-one Ascending i pointer small (omega arith)) in
    let j-at = ap (λ (p : Pointer). p.word) (moves-are-one Ascending j pointer small (omega arith)) in
    omega arith
spots-differ Descending i j pointer small few earlier same =
    let i-at = ap (λ (p : Pointer). p.word) (moves-are-one Descending i pointer small (omega arith)) in
    let j-at = ap (λ (p : Pointer). p.word) (moves-are-one Descending j pointer small (omega arith)) in
    omega arith

setup-direction : (way : Direction) (file : List ℕ) → con1 file ≡ plain way → (setup file).direction ≡ way
unfolding setup direction
setup-direction Ascending file control = rw control
setup-direction Descending file control = rw control

-- a word of the first row stands at a spot
standing_at-is-spot : (direction way : Direction) (used : Bool) (width modulo k : ℕ) (pointer : Pointer) → direction ≡ way → used ≡ true → k < width
    → (standing_at direction used width modulo pointer k).word ≡ spot way k pointer
unfolding standing repeated
standing_at-is-spot direction way used width modulo k pointer is uses short = rw (is, uses, div-eq_of_lt short, mod-eq_of_lt short)

pub copy-of-one-row : CopyOfOneRow
unfolding start pointers
copy-of-one-row way memory file size all copies one lawful apart i within =
    let copying = setup-copies way file copies in
    let along : (setup file).direction ≡ way = setup-direction way file copies.control1 in
    let few : width size ≤ 64 = width-le size in
    let row : height size * width size ≡ width size = rw one (omega arith) in
    let at_a : (k : ℕ) → k < width size → from_a file size k ≡ spot way k (start file).pointers.a =
    λ k. standing_at-is-spot _ way _ (width size) _ k (start file).pointers.a along copying.a in
    let at-d : (k : ℕ) → k < width size → to_d file size k ≡ spot way k (start file).pointers.d =
    λ k. standing_at-is-spot _ way _ (width size) _ k (start file).pointers.d along copying.d in
    rw (← at_a i within, ← at-d i within)
    ((copy-of-a-rectangle way memory file size all copies lawful
    (λ i j below early same. apart i j (omega arith) (omega arith) (sym (at_a i (omega arith)) ∙ same ∙ at-d j (omega arith)))).found
    (λ i j below earlier same.
    spots-differ way i j (start file).pointers.d (pointer_at-lt file pointer_d) (omega arith) earlier
    (sym (at-d i (omega arith)) ∙ same ∙ at-d j (omega arith)))
    i (omega arith))
