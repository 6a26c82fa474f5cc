use Rattle.word.proofs.Base.{rules}
use Rattle.word.proofs.RepeatLaws.{repeated-turn, repeated-done}
use Rattle.area.proofs.RowsLaws.{words-room}
use Rattle.by_word.proofs.words.Goals as goal

pub loop-remaining-preserved : goal.loop-remaining-preserved
loop-remaining-preserved c = (search repeated-turn, search words-room, search rules, search rules)

pub returns : goal.returns
returns c = search repeated-done
