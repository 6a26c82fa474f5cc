-- `area::moves::turned` meets its contract, used or not.
use Rattle.word.proofs.ChoiceLaws.{if-when-true, if-when-false}
use Rattle.word.proofs.RoundLaws.{to-of-move}
use Rattle.area.specs.Move.{turned}
use Rattle.word.proofs.Base.{rules}
use Rattle.area.proofs.moves.turned.Goals as goal

pub returns-then-used : goal.returns-then-used
unfolding turned
returns-then-used c = search (rules, if-when-true, to-of-move)

pub returns : goal.returns
unfolding turned
returns c = search (rules, if-when-false)
