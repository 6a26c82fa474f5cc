-- `line::walk::always_pixels` meets its contract: by SUD horizontal, or vertical.
use Rattle.line.proofs.WalkLaws.{always_pixels-of-move}
use Rattle.line.proofs.walk.always_pixels.Goals as goal

pub returns : goal.returns
returns c = (search always_pixels-of-move, c.move_pixels.ensures.1)
