-- `blocks::one::source` meets its contract.
use Rattle.word.proofs.Base.{refl}
use Rattle.blocks.proofs.one.source.Goals as goal

pub returns : goal.returns
returns c = (refl, c.as_lying-rows.ensures)
