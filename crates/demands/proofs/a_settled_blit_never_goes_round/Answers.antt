-- The theorem is proved in `SettledKnownLaws`.
use Rattle.demands.proofs.SettledKnownLaws.{a-settled-blit-never-goes-round}
use Rattle.demands.proofs.a_settled_blit_never_goes_round.Goals as goal

pub returns : goal.returns
returns c = a-settled-blit-never-goes-round
