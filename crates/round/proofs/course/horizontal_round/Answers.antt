-- `round::course::horizontal_round` meets its contract: left of the first pixel, right of the last.
use Rattle.round.proofs.DotLaws.{horizontal_moves-when-left, horizontal_moves-when-right}
use Rattle.round.proofs.course.horizontal_round.Goals as goal

pub returns-then-leftward : goal.returns-then-leftward
returns-then-leftward c = search horizontal_moves-when-left

pub returns : goal.returns
returns c = search horizontal_moves-when-right
