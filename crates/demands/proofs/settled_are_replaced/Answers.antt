-- The theorem is proved in `SettledAreReplacedLaws`.
use Rattle.demands.proofs.SettledAreReplacedLaws.{settled-are-replaced}
use Rattle.demands.proofs.settled_are_replaced.Goals as goal

pub returns : goal.returns
returns c = settled-are-replaced
