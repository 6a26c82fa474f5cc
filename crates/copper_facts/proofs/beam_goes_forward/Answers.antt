-- The theorem is proved in `BeamLaws`.
use Rattle.copper_facts.proofs.BeamLaws.{beam-goes-forward}
use Rattle.copper_facts.proofs.beam_goes_forward.Goals as goal

pub returns : goal.returns
returns c = beam-goes-forward
