-- `card_text::card` meets its contract: a bad first line, another bad line, a good card.
use Rattle.card_text.proofs.CardLaws.{start-le, words-le, good-fits-card, printed-when-ram-bad, printed-when-bad, printed-when-good}
use Rattle.card_text.proofs.card.Goals as goal

pub returns-in_default : goal.returns-in_default
returns-in_default c = printed-when-ram-bad _ _ _ _ c.ram_line.ensures c.in_default.is c.print_bad.ensures

pub bad_from-requires : goal.bad_from-requires
bad_from-requires c = start-le _ _ c.ram_line.ensures _ c.in-Some.is

pub good-requires : goal.good-requires
good-requires c = (good-fits-card _ _ c.ram_line.ensures _ c.in-Some.is _ c.bad_from.ensures c.in-None.is, words-le _ _ c.ram_line.ensures _ c.in-Some.is)

pub returns-in-Some-bad_from : goal.returns-in-Some-bad_from
returns-in-Some-bad_from c =
    printed-when-bad _ _ c.ram_line.ensures _ c.in-Some.is _ _ _ _ c.bad_from.ensures c.in-Some-bad_from.is c.print_bad-in-Some-bad_from.ensures

pub returns-in-None : goal.returns-in-None
returns-in-None c = printed-when-good _ _ c.ram_line.ensures _ c.in-Some.is _ _ _ c.bad_from.ensures c.in-None.is c.good.ensures
