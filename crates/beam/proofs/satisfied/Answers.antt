-- `beam::satisfied` meets its contract: both sides are ANDed with the mask.
use Rattle.beam.proofs.SatisfiedLaws.{satisfied-of-parts}
use Rattle.beam.proofs.satisfied.Goals as goal

pub returns : goal.returns
returns c = search satisfied-of-parts
