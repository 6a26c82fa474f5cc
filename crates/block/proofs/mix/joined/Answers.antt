-- `block::mix::joined` meets its contract: it is the definition's sum.
use Rattle.word.proofs.Base.{refl}
use Rattle.block.specs.Inner.Terms.{joined}
use Rattle.block.proofs.mix.joined.Goals as goal

pub returns : goal.returns
unfolding joined
returns c = refl
