-- The theorem is proved in `AcceptedAgain`.
use Rattle.blit.proofs.AcceptedAgain.{accepted-again}
use Rattle.blit.proofs.theorems.accepted_again.Goals as goal

pub returns : goal.returns
returns c = accepted-again
