-- `round::course::by_dots` meets its contract: from the first dot's mark.
use Rattle.word.proofs.Base.{rules}
use Rattle.round.proofs.LineLaws.{mark-lt, line_moves-of-mark}
use Rattle.round.proofs.course.by_dots.Goals as goal

pub dots_round-requires : goal.dots_round-requires
dots_round-requires c = (search mark-lt, search rules)

pub returns : goal.returns
returns c = search line_moves-of-mark
