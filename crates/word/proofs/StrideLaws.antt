-- Laws of the stride from row to row: every row starts as far from the one before it.
use Rattle.word.proofs.Base.{◌≡◌, refl, sym, ap, ◌∙◌, ℕ, zero, suc, ◌+◌, ◌-◌, ◌*◌, ◌%◌, ◌<◌, ◌≤◌}
use Rattle.word.proofs.Base.{mul-le-mul_right, arith}
use native.Mathlib.Nat.{mul-le-mul_left, le_trans}
use mir.Syntax.{w32}
use mir.Val.{Fits}
use Rattle.word.specs.declared.types.Direction.{Direction}
use Rattle.word.specs.declared.types.Direction.TheVariants.{Ascending, Descending}
use Rattle.word.specs.declared.types.Pointer.{Pointer}
use Rattle.word.specs.Repeat.{repeated}
use Rattle.word.specs.Pointer.{pointer_end, passed, next_row}
use Rattle.word.proofs.PointerLaws.{sum-of-remainder, next_row-lt, next_row-of-moves}

-- the start of memory, from which a stride is measured
abbrev pub origin : Pointer
origin = record { word = 0 }

sum-with-remainder : (word by : ℕ) → (word + by % pointer_end) % pointer_end ≡ (word + by) % pointer_end
sum-with-remainder word by = omega arith

moves-evenly : (word first later : ℕ)
    → ((word + first) % pointer_end + later) % pointer_end ≡ (word + ((0 + first) % pointer_end + later) % pointer_end) % pointer_end
moves-evenly word first later =
    sum-of-remainder (word + first) later
    ∙ ap (λ (sum : ℕ). sum % pointer_end) (omega arith)
    ∙ sym (sum-with-remainder word (0 + first + later))
    ∙ ap (λ (sum : ℕ). (word + sum) % pointer_end) (sym (sum-of-remainder (0 + first) later))

-- two moves take a pointer as far as they take the start of memory
passed-evenly : (direction : Direction) (width modulo : ℕ) (pointer : Pointer)
    → (passed direction modulo (passed direction width pointer)).word
    ≡ (pointer.word + (passed direction modulo (passed direction width origin)).word) % pointer_end
unfolding passed
passed-evenly Ascending width modulo pointer = moves-evenly pointer.word (width % pointer_end) (modulo % pointer_end)
passed-evenly Descending width modulo pointer =
    moves-evenly pointer.word (pointer_end - width % pointer_end) (pointer_end - modulo % pointer_end)

-- every row starts as far above the one before it
pub next_row-evenly : (direction : Direction) (width modulo : ℕ) (pointer : Pointer) → pointer.word < pointer_end → width ≤ 64
    → (next_row direction width modulo pointer).word ≡ (pointer.word + (next_row direction width modulo origin).word) % pointer_end
next_row-evenly direction width modulo pointer small narrow =
    rw (
      ← (next_row-of-moves direction width modulo pointer _ _ small narrow refl refl).0,
      ← (next_row-of-moves direction width modulo origin _ _ (omega arith) narrow refl refl).0,
    )
    (passed-evenly direction width modulo pointer)

-- so k rows on a pointer has gone k strides up or down, as long as it doesn't go round
module _ (direction : Direction) (width modulo : ℕ) where
  abbrev rows_on : ℕ → Pointer → Pointer
  rows_on = repeated (λ _. next_row direction width modulo)

  abbrev step : ℕ
  step = (next_row direction width modulo origin).word

  pub rows-lt : (k : ℕ) (pointer : Pointer) → pointer.word < pointer_end → (rows_on k pointer).word < pointer_end
  unfolding repeated
  rows-lt zero pointer small = small
  rows-lt (suc k) pointer small = rows-lt k (next_row direction width modulo pointer) (next_row-lt direction width modulo pointer)

  pub rows-upward : width ≤ 64 → (k : ℕ) (pointer : Pointer) → pointer.word + k * step < pointer_end
      → (rows_on k pointer).word ≡ pointer.word + k * step
  unfolding repeated
  rows-upward narrow zero pointer inside = omega arith
  rows-upward narrow (suc k) pointer inside =
      let next : (next_row direction width modulo pointer).word ≡ pointer.word + step =
      next_row-evenly direction width modulo pointer (omega arith) narrow ∙ omega arith in
      rows-upward narrow k (next_row direction width modulo pointer) (omega (arith, next)) ∙ omega (arith, next)

  pub rows-downward : width ≤ 64 → (k : ℕ) (pointer : Pointer) → pointer.word < pointer_end → k * (pointer_end - step) ≤ pointer.word
      → (rows_on k pointer).word + k * (pointer_end - step) ≡ pointer.word
  unfolding repeated
  rows-downward narrow zero pointer small inside = omega arith
  rows-downward narrow (suc k) pointer small inside =
      let bound : step < pointer_end = next_row-lt direction width modulo origin in
      let next : (next_row direction width modulo pointer).word + (pointer_end - step) ≡ pointer.word =
      let even = next_row-evenly direction width modulo pointer small narrow in omega (arith, even, bound) in
      let rest = rows-downward narrow k (next_row direction width modulo pointer) (next_row-lt direction width modulo pointer) (omega (arith, next)) in
      omega (arith, rest, next)

pub distance-le : (rows words : ℕ) → rows ≤ 1024 → words ≤ pointer_end → (rows - 1) * words ≤ 268173312
distance-le rows words few short =
    le_trans (mul-le-mul_right words (omega arith)) (mul-le-mul_left 1023 short)

pub distance-fits : (rows words : ℕ) → rows ≤ 1024 → words ≤ pointer_end → Fits w32 ((rows - 1) * words)
distance-fits rows words few short =
    let far : (rows - 1) * words ≤ 268173312 = distance-le rows words few short in
    record { fits = omega arith }
