-- `refusal::both_fills` meets its contract: the two bits.
use Rattle.word.proofs.Base.{refl}
use Rattle.refusal.specs.Refusal.{both_fills}
use Rattle.refusal.proofs.both_fills.Goals as goal

pub returns : goal.returns
unfolding both_fills
returns c = rw (c.inclusive_fill.ensures, c.exclusive_fill.ensures) refl
