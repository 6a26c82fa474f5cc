-- The theorem is proved in `AcceptedAgainLaws`.
use Rattle.runner.proofs.AcceptedAgainLaws.{accepted-again}
use Rattle.runner.proofs.theorems.accepted_again.Goals as goal

pub returns : goal.returns
returns c = accepted-again
