-- `drawing::draw::line_blit` meets its contract: the dots by their marks.
use Rattle.drawing.proofs.DrawLaws.{line_blit-of-marks}
use Rattle.drawing.proofs.draw.line_blit.Goals as goal

pub returns : goal.returns
returns c = search line_blit-of-marks
