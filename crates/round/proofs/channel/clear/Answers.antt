-- `round::channel::clear` meets its contract: the first and the last row tell for those between.
use Rattle.word.proofs.Base.{rules}
use Rattle.round.proofs.ClearLaws.{clear-by-gap, clear-by-width, clear-by-back}
use Rattle.round.proofs.channel.clear.Goals as goal

pub returns-then-gap-lt-DOWNWARD : goal.returns-then-gap-lt-DOWNWARD
returns-then-gap-lt-DOWNWARD c = search (rules, clear-by-gap)

pub returns-then-back-width : goal.returns-then-back-width
returns-then-back-width c = search (rules, clear-by-width)

pub returns : goal.returns
returns c = search (rules, clear-by-back)
