-- `block::needs::differs` meets its contract.
use Rattle.word.proofs.Base.{refl}
use Rattle.block.specs.Inner.Ignores.{differs}
use Rattle.block.proofs.needs.differs.Goals as goal

pub returns : goal.returns
unfolding differs
returns c = refl
