-- The theorem is proved in `DelayMovesRight`.
use Rattle.picture.proofs.DelayMovesRight.{delay-moves-right}
use Rattle.picture.proofs.theorems.delay_moves_right.Goals as goal

pub returns : goal.returns
returns c = delay-moves-right
