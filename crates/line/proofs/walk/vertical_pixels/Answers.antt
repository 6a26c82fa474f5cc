-- `line::walk::vertical_pixels` meets its contract: up, or down.
use Rattle.line.proofs.WalkLaws.{vertical_pixels-when-up, vertical_pixels-when-down}
use Rattle.word.proofs.Base.{rules}
use Rattle.line.proofs.walk.vertical_pixels.Goals as goal

pub returns-then-upward : goal.returns-then-upward
returns-then-upward c = (search vertical_pixels-when-up, search rules)

pub returns : goal.returns
returns c = (search vertical_pixels-when-down, search rules)
