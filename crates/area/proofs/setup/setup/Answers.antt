-- `area::setup::setup` meets its contract, field by field.
use Rattle.word.proofs.Base.{refl}
use Rattle.area.specs.Setup.{setup}
use Rattle.area.proofs.setup.setup.Goals as goal

pub returns : goal.returns
unfolding setup
returns c = rw (
  c.carry_in-carry.ensures,
  c.function-function.ensures,
  c.fill-fill.ensures,
  c.direction-direction.ensures,
  c.shifts-shifts.ensures,
  c.masks-masks.ensures,
  c.modulos-modulos.ensures,
  c.uses-uses.ensures,
  c.read-con1.ensures,
  c.read-con0.ensures,
) refl
