use Rattle.block.proofs.EachLaws.{nought-none, nought-turn}
use Rattle.block.proofs.level.nought.Goals as goal

pub loop-i-init : goal.loop-i-init
loop-i-init c = nought-none _

pub loop-i-preserved : goal.loop-i-preserved
loop-i-preserved c = nought-turn _ _ _ c.loop-i.invariant
