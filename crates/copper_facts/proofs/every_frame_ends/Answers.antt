-- The theorem is proved in `EndLaws`.
use Rattle.copper_facts.proofs.EndLaws.{every-frame-ends}
use Rattle.copper_facts.proofs.every_frame_ends.Goals as goal

pub returns : goal.returns
returns c = every-frame-ends
