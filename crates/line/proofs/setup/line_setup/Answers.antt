-- `line::setup::line_setup` meets its contract, field by field.
use Rattle.line.specs.Setup.{line_setup}
use Rattle.word.proofs.Base.{refl}
use Rattle.line.proofs.setup.line_setup.Goals as goal

pub returns : goal.returns
unfolding line_setup
returns c = rw (
  c.is_set.ensures,
  c.gains-gains.ensures,
  c.half-row.ensures,
  c.octant-octant.ensures,
  c.function-function.ensures,
  c.read-modulo.ensures,
  c.read-texture.ensures,
  c.read-mask.ensures,
  c.read-data.ensures,
  c.read-con1.ensures,
  c.read-con0.ensures,
) refl
