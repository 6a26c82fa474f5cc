use Rattle.word.proofs.Base.{rules}
use Rattle.round.proofs.LineLaws.{dots-when-round, dots-turn, dots-done, walked-lt}
use Rattle.round.proofs.course.dots_round.Goals as goal

pub returns-then-dot_round : goal.returns-then-dot_round
returns-then-dot_round c = search (rules, dots-when-round)

pub loop-dot-preserved : goal.loop-dot-preserved
loop-dot-preserved c = (search (rules, dots-turn), search (rules, walked-lt))

pub returns : goal.returns
returns c = search (rules, dots-done)
