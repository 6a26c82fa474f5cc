-- `block::fill::prefix` meets its contract.
use Rattle.word.proofs.Base.{ap}
use Rattle.word.specs.declared.types.Filled.{Filled}
use Rattle.word.specs.Fill.{filled}
use Rattle.block.proofs.fill.prefix.Goals as goal

pub returns : goal.returns
unfolding filled
returns c = ap (λ (made : Filled). made.word) c.filled.ensures
