-- `line::walk::walked` meets its contract, field by field.
use Rattle.line.proofs.WalkLaws.{walked-of-parts}
use Rattle.line.proofs.walk.walked.Goals as goal

pub returns : goal.returns
returns c = search walked-of-parts
