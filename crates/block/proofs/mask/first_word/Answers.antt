-- `block::mask::first_word` meets its contract: what a slice of words holds are words.
use Rattle.word.proofs.Base.{arith}
use Rattle.block.proofs.mask.first_word.Goals as goal

pub returns : goal.returns
returns c = λ j. omega (arith, c.type_inv.x j)
