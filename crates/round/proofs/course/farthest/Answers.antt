-- `round::course::farthest` meets its contract: a product of what has bounds.
use Rattle.round.proofs.ReachLaws.{farthest-is, farthest-le, farthest-fits}
use Rattle.round.proofs.course.farthest.Goals as goal

pub overflow_mul-result : goal.overflow_mul-result
overflow_mul-result c = search farthest-fits

pub returns : goal.returns
returns c = (search farthest-is, search farthest-le)
