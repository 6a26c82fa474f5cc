-- `round::line_round` meets its contract: the line's own course.
use Rattle.word.proofs.Base.{rules}
use Rattle.round.specs.Line.{line_round}
use Rattle.round.proofs.line_round.Goals as goal

pub returns : goal.returns
unfolding line_round
returns c = search rules
