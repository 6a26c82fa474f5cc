-- `line::setup::first_dot` meets its contract, field by field.
use Rattle.line.specs.Dot.{first_dot}
use Rattle.word.proofs.Base.{refl}
use Rattle.line.proofs.setup.first_dot.Goals as goal

pub returns : goal.returns
unfolding first_dot
returns c = rw (
  c.is_set.ensures,
  c.read-accumulator.ensures,
  c.shift-bit.ensures,
  c.shift-shift.ensures,
  c.pointer_at-at.ensures,
  c.read-con1.ensures,
  c.read-con0.ensures,
) refl
