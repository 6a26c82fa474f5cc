-- `apart::span::below` meets its contract, by the direction.
use Rattle.word.proofs.Base.{◌≡◌, ℕ, ◌-◌, rules}
use Rattle.apart.specs.Inner.Spans.{Direction, Descending, below}
use Rattle.apart.proofs.span.below.Goals as goal

below-when : (direction : Direction) (width : ℕ) → direction ≡ Descending → width - 1 ≡ below direction width
below-when direction width way = rw way

pub returns-in-Descending : goal.returns-in-Descending
returns-in-Descending c = (search below-when, search rules)
