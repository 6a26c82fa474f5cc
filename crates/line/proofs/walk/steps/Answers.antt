-- `line::walk::steps` meets its contract: the always move alone, and both moves.
use Rattle.line.proofs.WalkLaws.{steps-of-parts}
use Rattle.line.proofs.walk.steps.Goals as goal

pub returns : goal.returns
returns c = search steps-of-parts
