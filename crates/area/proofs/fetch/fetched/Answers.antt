-- `area::fetch::fetched` meets its contract, used or not.
use Rattle.word.proofs.ChoiceLaws.{if-when-true, if-when-false}
use Rattle.word.proofs.RoundLaws.{to-of-move}
use Rattle.area.specs.Fetch.{fetched}
use Rattle.area.specs.Move.{stepped}
use Rattle.word.proofs.Base.{rules}
use Rattle.area.proofs.fetch.fetched.Goals as goal

pub returns-then-used : goal.returns-then-used
unfolding fetched stepped
returns-then-used c = (search (rules, if-when-true), search (rules, if-when-true, to-of-move))

pub returns : goal.returns
unfolding fetched stepped
returns c = (search (rules, if-when-false), search (rules, if-when-false))
