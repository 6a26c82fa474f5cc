-- The theorem is proved in `WidenedIsAccepted`.
use Rattle.widen.proofs.WidenedIsAccepted.{widened-is-accepted}
use Rattle.widen.proofs.theorems.widened_is_accepted.Goals as goal

pub returns : goal.returns
returns c = widened-is-accepted
