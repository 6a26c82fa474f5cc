-- Laws of a blit's size.
use Rattle.std.specs.Prelude.{if◌then◌else◌}
use Rattle.word.proofs.Base.{◌≡◌, ℕ, zero, suc, ◌*◌, ◌/◌, ◌%◌, ◌<◌, ◌≤◌, mul-le-mul, arith, eqb, eq-eqb, ne_eqb}
use mir.Val.{Fits}
use mir.Syntax.{w32}
use Rattle.word.specs.Size.{height, width}
use Rattle.word.specs.EverySizeHasAWord.{EverySizeHasAWord}

pub height-of-zero : (size rows : ℕ) → rows ≡ size / 64 % 1024 → rows ≡ 0 → 1024 ≡ height size
unfolding height
height-of-zero size rows same none = rw (← same, eq-eqb rows 0 none)

pub height-of-field : (size rows : ℕ) → rows ≡ size / 64 % 1024 → (rows ≡ 0 → ⊥) → rows ≡ height size
unfolding height
height-of-field size rows same some = rw (← same, ne_eqb rows 0 some)

pub width-of-zero : (size words : ℕ) → words ≡ size % 64 → words ≡ 0 → 64 ≡ width size
unfolding width
width-of-zero size words same none = rw (← same, eq-eqb words 0 none)

pub width-of-field : (size words : ℕ) → words ≡ size % 64 → (words ≡ 0 → ⊥) → words ≡ width size
unfolding width
width-of-field size words same some = rw (← same, ne_eqb words 0 some)

-- a field or, for zero, its most, lies between one and the most
field-bounds : (field most : ℕ) → field < most
    → (1 ≤ (if eqb field 0 then most else field)) × ((if eqb field 0 then most else field) ≤ most)
field-bounds zero most small = (omega arith, omega arith)
field-bounds (suc field) most small =
    rw (ne_eqb (suc field) 0 (λ none. omega arith)) (omega arith, omega arith)

pub height-positive : (size : ℕ) → 1 ≤ height size
unfolding height
height-positive size = (field-bounds (size / 64 % 1024) 1024 (omega arith)).0

pub height-le : (size : ℕ) → height size ≤ 1024
unfolding height
height-le size = (field-bounds (size / 64 % 1024) 1024 (omega arith)).1

pub width_positive : (size : ℕ) → 1 ≤ width size
unfolding width
width_positive size = (field-bounds (size % 64) 64 (omega arith)).0

pub width-le : (size : ℕ) → width size ≤ 64
unfolding width
width-le size = (field-bounds (size % 64) 64 (omega arith)).1

pub every-size-has-a-word : EverySizeHasAWord
every-size-has-a-word size = mul-le-mul (height-positive size) (width_positive size)

pub words-le : (size : ℕ) → height size * width size ≤ 1024 * 64
words-le size = mul-le-mul (height-le size) (width-le size)

pub words-fit : (size rows words : ℕ) → rows ≡ height size → words ≡ width size → Fits w32 (rows * words)
words-fit size rows words tall wide = rw (tall, wide) (record { fits = omega (arith, words-le size) })
