-- `drawing::draw::one_dot` meets its contract: the dot, and the mark after it.
use Rattle.drawing.proofs.DrawLaws.{one_dot-of-parts}
use Rattle.drawing.proofs.draw.one_dot.Goals as goal

pub returns : goal.returns
returns c = search one_dot-of-parts
