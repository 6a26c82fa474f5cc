-- `area::flow::sources` meets its contract, field by field.
use Rattle.word.proofs.Base.{refl}
use Rattle.area.specs.Flow.{sources}
use Rattle.area.proofs.flow.sources.Goals as goal

pub returns : goal.returns
unfolding sources
returns c = rw (c.read-c.ensures, c.read-b.ensures, c.read-a.ensures) refl
