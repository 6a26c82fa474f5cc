-- `round::course::sometimes_round` meets its contract: by SUD vertical, or horizontal.
use Rattle.round.specs.Line.{sometimes_moves}
use Rattle.round.proofs.course.sometimes_round.Goals as goal

pub returns : goal.returns
unfolding sometimes_moves
returns c = c.move_round.ensures
