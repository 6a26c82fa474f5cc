-- `line::walk::dot_of` meets its contract, field by field.
use Rattle.line.proofs.WalkLaws.{dot_of-of-parts}
use Rattle.line.proofs.walk.dot_of.Goals as goal

pub returns : goal.returns
returns c = search dot_of-of-parts
