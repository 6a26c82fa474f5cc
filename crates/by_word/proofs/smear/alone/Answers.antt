-- `by_word::smear::alone` meets its contract, test by test.
use Rattle.word.proofs.Base.{sym, rules}
use Rattle.block.proofs.EachLaws.{never}
use Rattle.by_word.proofs.SmearLaws.{alone_of}
use Rattle.by_word.proofs.smear.alone.Goals as goal

pub returns-then-uses-need : goal.returns-then-uses-need
returns-then-uses-need c = λ told. never (sym told)

pub returns-then-uses-masks : goal.returns-then-uses-masks
returns-then-uses-masks c = λ told. never (sym told)

pub returns-in-Ascending-Off : goal.returns-in-Ascending-Off
returns-in-Ascending-Off c = λ _. alone_of _ _ c.needs-need.ensures c.if-uses-need.false c.if-uses-masks.false (search rules) (search rules)
