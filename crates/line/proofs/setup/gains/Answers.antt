-- `line::setup::gains` meets its contract, field by field.
use Rattle.word.proofs.Base.{refl}
use Rattle.line.proofs.setup.gains.Goals as goal

pub returns : goal.returns
returns c = rw (c.read-b.ensures, c.read-a.ensures) refl
