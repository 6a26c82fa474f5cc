-- The theorem is proved in `DelayOfNought`.
use Rattle.picture.proofs.DelayOfNought.{delay-of-nought}
use Rattle.picture.proofs.theorems.delay_of_nought.Goals as goal

pub returns : goal.returns
returns c = delay-of-nought
