-- `area::flow::start` meets its contract: the flow from the file's pointers.
use Rattle.word.proofs.Base.{refl}
use Rattle.area.specs.Flow.{start}
use Rattle.area.proofs.flow.start.Goals as goal

pub returns : goal.returns
unfolding start
returns c = rw (c.start_from.ensures, c.pointers.ensures) refl
