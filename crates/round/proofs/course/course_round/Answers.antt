-- `round::course::course_round` meets its contract: a line that can't come to an end stays, any other goes dot by dot.
use Rattle.round.proofs.LineLaws.{mark-fits}
use Rattle.round.proofs.ReachLaws.{line-when-clear}
use Rattle.round.proofs.course.course_round.Goals as goal

pub overflow_add-pixel : goal.overflow_add-pixel
overflow_add-pixel c = search mark-fits

pub returns-then-far-pixel : goal.returns-then-far-pixel
returns-then-far-pixel c = search line-when-clear
