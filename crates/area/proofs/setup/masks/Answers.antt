-- `area::setup::masks` meets its contract, field by field.
use Rattle.word.proofs.Base.{refl}
use Rattle.area.specs.Setup.{masks}
use Rattle.area.proofs.setup.masks.Goals as goal

pub returns : goal.returns
unfolding masks
returns c = rw (c.read-last.ensures, c.read-first.ensures) refl
