-- `area::setup::modulos` meets its contract, field by field.
use Rattle.word.proofs.Base.{refl}
use Rattle.area.specs.Setup.{modulos}
use Rattle.area.proofs.setup.modulos.Goals as goal

pub returns : goal.returns
unfolding modulos
returns c = rw (
  c.half-d.ensures,
  c.read-4.ensures,
  c.half-c.ensures,
  c.read-3.ensures,
  c.half-b.ensures,
  c.read-2.ensures,
  c.half-a.ensures,
  c.read.ensures,
) refl
