use Rattle.word.proofs.Base.{rules}
use Rattle.stores.proofs.LaidLaws.{repeated-on, repeated-over}
use Rattle.stores.proofs.rows_on.Goals as goal

pub loop-row-preserved : goal.loop-row-preserved
loop-row-preserved c = (search repeated-on, search rules)

pub returns : goal.returns
returns c = search repeated-over
