-- `drawing::leave::leave` meets its contract: the accumulator, the two pointers, the flag.
use Rattle.drawing.proofs.DrawLaws.{leave-of-parts}
use Rattle.drawing.proofs.leave.leave.Goals as goal

pub returns : goal.returns
returns c = search leave-of-parts
