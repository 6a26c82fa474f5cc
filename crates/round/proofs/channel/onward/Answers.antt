-- `round::channel::onward` meets its contract, direction by direction.
use Rattle.word.proofs.Base.{rules}
use Rattle.round.proofs.ClearLaws.{onward-when-ascending, onward-when-descending}
use Rattle.round.proofs.channel.onward.Goals as goal

pub returns-in-Ascending : goal.returns-in-Ascending
returns-in-Ascending c = (search (rules, onward-when-ascending), search rules)

pub returns-in-Descending : goal.returns-in-Descending
returns-in-Descending c = (search (rules, onward-when-descending), search rules)
