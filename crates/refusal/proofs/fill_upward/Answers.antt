-- `refusal::fill_upward` meets its contract: the three bits.
use Rattle.word.proofs.Base.{refl}
use Rattle.refusal.specs.Refusal.{fill_upward}
use Rattle.refusal.proofs.fill_upward.Goals as goal

pub returns : goal.returns
unfolding fill_upward
returns c = rw (c.descending.ensures, c.inclusive_fill.ensures, c.exclusive_fill.ensures) refl
