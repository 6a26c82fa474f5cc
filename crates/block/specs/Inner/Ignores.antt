-- The sources that a function ignores.
use Rattle.std.specs.Prelude.{ℕ, ◌/◌, ◌≡◌, Bool, false, not, eqb}
use Rattle.std.specs.Int.Bits.{bit_and}
use Rattle.word.specs.Logic.{logic}
use Rattle.block.specs.Inner.Types.{Needs}

-- a source that isn't needed may be any word
pub record Ignores (function : ℕ) (need : Needs) : Type 0 where
  pub a : need.a ≡ false → (a other b c : ℕ) → logic function a b c ≡ logic function other b c
  pub b : need.b ≡ false → (a b other c : ℕ) → logic function a b c ≡ logic function a other c
  pub c : need.c ≡ false → (a b c other : ℕ) → logic function a b c ≡ logic function a b other

-- whether bits of the function differ from those that stand so far above them
unfoldable pub differs : (function by shown : ℕ) → Bool
differs function by shown = not (eqb (bit_and (function / by) shown) (bit_and function shown))

-- a source is needed where bit 4a + 2b + c isn't the same for both a, b, c
abbrev pub needed : (function : ℕ) → Needs
needed function = record { a = differs function 16 15; b = differs function 4 51; c = differs function 2 85 }
