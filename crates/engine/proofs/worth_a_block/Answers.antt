-- `engine::worth_a_block` meets its contract.
use Rattle.word.proofs.ChoiceLaws.{and_left}
use Rattle.word.proofs.Base.{leb-true}
use Rattle.engine.proofs.worth_a_block.Goals as goal

pub returns : goal.returns
returns c = λ told. leb-true _ _ (and_left _ _ told)
