-- `round::course::vertical_round` meets its contract: down adds a row, up takes it away.
use Rattle.round.proofs.DotLaws.{vertical_moves-when-up, vertical_moves-when-down}
use Rattle.round.proofs.course.vertical_round.Goals as goal

pub returns-then-upward : goal.returns-then-upward
returns-then-upward c = search vertical_moves-when-up

pub returns : goal.returns
returns c = search vertical_moves-when-down
