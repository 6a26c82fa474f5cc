-- `line::walk::sometimes_pixels` meets its contract: by SUD vertical, or horizontal.
use Rattle.line.specs.Inner.Walk.{sometimes_pixels}
use Rattle.line.proofs.walk.sometimes_pixels.Goals as goal

pub returns : goal.returns
unfolding sometimes_pixels
returns c = c.move_pixels.ensures
