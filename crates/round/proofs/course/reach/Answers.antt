-- `round::course::reach` meets its contract: a row is so many words on, or so many back.
use Rattle.word.proofs.Base.{rules}
use Rattle.round.proofs.ReachLaws.{reach-when-below, reach-when-above}
use Rattle.round.proofs.course.reach.Goals as goal

pub returns-then-by-ge-DOWNWARD : goal.returns-then-by-ge-DOWNWARD
returns-then-by-ge-DOWNWARD c = (search reach-when-below, search rules)

pub returns : goal.returns
returns c = (search reach-when-above, search rules)
