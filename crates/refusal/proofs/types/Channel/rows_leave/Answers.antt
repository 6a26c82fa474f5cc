use Rattle.word.proofs.Base.{rules}
use Rattle.refusal.proofs.TouchLaws.{touches-when-row-leaves, touches-turn, touches-done}
use Rattle.refusal.proofs.types.Channel.rows_leave.Goals as goal

pub returns-then-row_leaves : goal.returns-then-row_leaves
returns-then-row_leaves c = search touches-when-row-leaves

pub loop-row-preserved : goal.loop-row-preserved
loop-row-preserved c = (search touches-turn, search rules)

pub returns : goal.returns
returns c = search touches-done
