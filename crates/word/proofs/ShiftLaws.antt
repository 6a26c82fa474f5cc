-- Laws of the shift. The shift of nought is the one people look for first.
use Rattle.word.proofs.Base.{◌≡◌, ℕ, arith}
use Rattle.word.specs.declared.types.Direction.{Direction}
use Rattle.word.specs.declared.types.Direction.TheVariants.{Ascending, Descending}
use Rattle.word.specs.Shift.{shifted}
use Rattle.word.specs.ShiftOfNought.{ShiftOfNought}

pub shifted-by-zero : ShiftOfNought
shifted-by-zero Ascending earlier this before now = omega arith
shifted-by-zero Descending earlier this before now = omega arith

pub shifted-when-ascending : (direction : Direction) (n earlier this kept : ℕ)
    → direction ≡ Ascending → kept ≡ shifted Ascending n earlier this → kept ≡ shifted direction n earlier this
shifted-when-ascending direction n earlier this kept way same = rw way same

pub shifted-when-descending : (direction : Direction) (n earlier this kept : ℕ)
    → direction ≡ Descending → kept ≡ shifted Descending n earlier this → kept ≡ shifted direction n earlier this
shifted-when-descending direction n earlier this kept way same = rw way same
