use Rattle.word.proofs.Base.{arith, not-false}
use Rattle.card_reading.proofs.ReadingLaws.{key_line-fits-next, bad_from-turn, bad_from-when-bad, bad_from-when-ended, bad_from-when-more, told-when-some, told-when-none}
use Rattle.card_reading.proofs.lines.bad_from.Goals as goal

pub returns-then-not-key_line : goal.returns-then-not-key_line
returns-then-not-key_line c = told-when-some _ _ (omega arith) (search bad_from-when-bad)

pub loop-key-preserved : goal.loop-key-preserved
loop-key-preserved c = (search (bad_from-turn, not-false), search (key_line-fits-next, not-false))

pub returns-then-start-text : goal.returns-then-start-text
returns-then-start-text c = told-when-none _ (search (bad_from-when-ended, arith))

pub returns : goal.returns
returns c = told-when-some _ _ (omega arith) (search (bad_from-when-more, arith))
