-- `area::flow::start_from` meets its contract, field by field.
use Rattle.word.proofs.Base.{refl}
use Rattle.area.proofs.flow.start_from.Goals as goal

pub returns : goal.returns
returns c = rw c.sources-sources.ensures refl
