-- `refusal::touch::line_leaves` meets its contract: no dot leaves memory that no pointer does; else the marks tell.
use Rattle.refusal.proofs.LineTouchLaws.{line_touches-stay, line_touches-of-mark}
use Rattle.refusal.proofs.touch.line_leaves.Goals as goal

pub returns-then-n : goal.returns-then-n
returns-then-n c = search line_touches-stay

pub returns : goal.returns
returns c = search line_touches-of-mark
