-- `block::shift::unmoved` meets its contract: a shift by nought is none.
use Rattle.word.proofs.Base.{rules}
use Rattle.block.proofs.ShiftLaws.{shift-of-nought}
use Rattle.block.proofs.shift.unmoved.Goals as goal

pub returns : goal.returns
returns c = λ n. shift-of-nought _ _ _ n _ (search rules) (search rules) c.first_word.ensures
