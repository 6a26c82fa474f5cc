-- `round::course::dot_round` meets its contract: the always move alone, or both, one after the other.
use Rattle.round.proofs.DotLaws.{dot_moves-when-set, dot_moves-when-sometimes, dot_moves-when-always}
use Rattle.round.proofs.course.dot_round.Goals as goal

pub returns-then-sign : goal.returns-then-sign
returns-then-sign c = search dot_moves-when-set

pub returns-then-sometimes_round : goal.returns-then-sometimes_round
returns-then-sometimes_round c = search dot_moves-when-sometimes

pub returns : goal.returns
returns c = search dot_moves-when-always
