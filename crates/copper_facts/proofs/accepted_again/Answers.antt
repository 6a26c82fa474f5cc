-- The theorem is proved in `AcceptedAgainLaws`.
use Rattle.copper_facts.proofs.AcceptedAgainLaws.{accepted-again}
use Rattle.copper_facts.proofs.accepted_again.Goals as goal

pub returns : goal.returns
returns c = accepted-again
