-- `line::walk::mark_of` meets its contract, field by field.
use Rattle.word.proofs.Base.{refl}
use Rattle.line.proofs.walk.mark_of.Goals as goal

pub returns : goal.returns
returns c = rw c.pixel_of-pixel.ensures refl
