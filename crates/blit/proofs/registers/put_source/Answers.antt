-- `blit::registers::put_source` meets its contract, used or not.
use Rattle.word.proofs.ChoiceLaws.{if-when-true, if-when-false}
use Rattle.blit.specs.WriteBack.{put_source}
use Rattle.word.proofs.Base.{rules}
use Rattle.blit.proofs.registers.put_source.Goals as goal

pub returns-then-used : goal.returns-then-used
unfolding put_source
returns-then-used c = search (rules, if-when-true)

pub returns-else-used : goal.returns-else-used
unfolding put_source
returns-else-used c = search (rules, if-when-false)
