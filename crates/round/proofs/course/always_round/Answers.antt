-- `round::course::always_round` meets its contract: by SUD horizontal, or vertical.
use Rattle.round.proofs.DotLaws.{always_moves-of-move}
use Rattle.round.proofs.course.always_round.Goals as goal

pub returns : goal.returns
returns c = search always_moves-of-move
