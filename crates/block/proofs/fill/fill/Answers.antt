-- `block::fill::fill` meets its contract, by the kind of fill.
use Rattle.word.proofs.Base.{◌∙◌, rules}
use Rattle.block.proofs.EachLaws.{each-copied}
use Rattle.block.proofs.FillLaws.{fill-of-off, carry-of-off, fill-of-inclusive, carry-of-inclusive}
use Rattle.block.proofs.fill.fill.Goals as goal

pub returns-in-Off : goal.returns-in-Off
returns-in-Off c = (fill-of-off _ _ _ _ _ (search rules), carry-of-off _ _ _ _ _ (search rules))

pub returns-in-Inclusive : goal.returns-in-Inclusive
returns-in-Inclusive c = let filling = c.exclusive-carry.ensures in let kind = c.in-Inclusive.is in (rw kind (fill-of-inclusive _ _ _ _ _ _ filling.2 filling.0 (λ j below. let h = c.each.ensures j below in search rules)), rw kind (filling.1 ∙ carry-of-inclusive _ _ _ _))

pub returns-in-Exclusive : goal.returns-in-Exclusive
returns-in-Exclusive c = let filling = c.exclusive-carry-in-Exclusive.ensures in let kind = c.in-Exclusive.is in (rw kind (each-copied _ _ _ _ filling.0 c.copied.ensures), rw kind filling.1)
