-- The theorem is proved in `CopyOfARectangle`.
use Rattle.blit.proofs.CopyOfARectangle.{copy-of-a-rectangle}
use Rattle.blit.proofs.theorems.copy_of_a_rectangle.Goals as goal

pub returns : goal.returns
returns c = copy-of-a-rectangle
