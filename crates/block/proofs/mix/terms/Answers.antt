-- `block::mix::terms` meets its contract: its sums are the definition's.
use Rattle.word.proofs.Base.{refl}
use Rattle.block.specs.Inner.Terms.{terms}
use Rattle.block.proofs.mix.terms.Goals as goal

pub returns : goal.returns
unfolding terms
returns c = refl
