-- Laws of the set-up: each choice by its bit.
use Rattle.word.proofs.Base.{◌≡◌, ℕ, Bool, true, false}
use Rattle.word.specs.declared.types.Direction.TheVariants.{Ascending, Descending}
use Rattle.word.specs.declared.types.Fill.TheVariants.{Off, Inclusive, Exclusive}
use Rattle.word.specs.Control.{exclusive_fill, inclusive_fill, descending}
use Rattle.area.specs.Setup.{direction, fill}

module _ (con1 : ℕ) (down : Bool) (of-down : down ≡ descending con1) where
  pub direction-when-down : down ≡ true → Descending ≡ direction con1
  unfolding direction
  direction-when-down holds = rw (← of-down, holds)

  pub direction-when-up : down ≡ false → Ascending ≡ direction con1
  unfolding direction
  direction-when-up fails = rw (← of-down, fails)

module _ (con1 : ℕ) (exclusive : Bool) (of-exclusive : exclusive ≡ exclusive_fill con1) where
  pub fill-when-exclusive : exclusive ≡ true → Exclusive ≡ fill con1
  unfolding fill
  fill-when-exclusive holds = rw (← of-exclusive, holds)

  module _ (none : exclusive ≡ false) (inclusive : Bool) (of-inclusive : inclusive ≡ inclusive_fill con1) where
    pub fill-when-inclusive : inclusive ≡ true → Inclusive ≡ fill con1
    unfolding fill
    fill-when-inclusive holds = rw (← of-exclusive, none, ← of-inclusive, holds)

    pub fill-when-off : inclusive ≡ false → Off ≡ fill con1
    unfolding fill
    fill-when-off fails = rw (← of-exclusive, none, ← of-inclusive, fails)
