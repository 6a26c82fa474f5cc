-- The theorem is proved in `OrOfItsBlitsLaws`.
use Rattle.runner.proofs.OrOfItsBlitsLaws.{or-of-its-blits}
use Rattle.runner.proofs.theorems.or_of_its_blits.Goals as goal

pub returns : goal.returns
returns c = or-of-its-blits
