-- `area::flow::pointers` meets its contract, field by field.
use Rattle.word.proofs.Base.{refl}
use Rattle.area.specs.Flow.{pointers}
use Rattle.area.proofs.flow.pointers.Goals as goal

pub returns : goal.returns
unfolding pointers
returns c = rw (
  c.pointer_at-d.ensures,
  c.pointer_at-c.ensures,
  c.pointer_at-b.ensures,
  c.pointer_at-a.ensures,
) refl
