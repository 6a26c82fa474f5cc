use Rattle.word.proofs.Base.{rules}
use Rattle.copper.proofs.FrameLaws.{onward-at-end, onward-at-last-end, onward-at-last, onward-turn, onward-of-refused}
use Rattle.copper.proofs.onward.onward.Goals as goal

pub returns-then-here-ge-END : goal.returns-then-here-ge-END
returns-then-here-ge-END c = search onward-at-end

-- a turn does one instruction and takes one from those lent
-- what is left from its place on gives what the whole gives
pub loop-done-preserved : goal.loop-done-preserved
loop-done-preserved c = (search onward-turn, search rules, search rules)

pub returns-in-Err : goal.returns-in-Err
returns-in-Err c = search onward-of-refused

pub returns-then-here-ge-END-2 : goal.returns-then-here-ge-END-2
returns-then-here-ge-END-2 c = search onward-at-last-end

pub returns-else-here-ge-END-2 : goal.returns-else-here-ge-END-2
returns-else-here-ge-END-2 c = search onward-at-last
