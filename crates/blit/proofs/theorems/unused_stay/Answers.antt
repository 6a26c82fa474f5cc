-- The theorem is proved in `UnusedStay`.
use Rattle.blit.proofs.UnusedStay.{unused-stay}
use Rattle.blit.proofs.theorems.unused_stay.Goals as goal

pub returns : goal.returns
returns c = unused-stay
