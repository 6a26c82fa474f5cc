use Rattle.word.proofs.Base.{rules}
use Rattle.block.proofs.EachLaws.{made-none, made-turn}
use Rattle.block.proofs.each.each.Goals as goal

pub loop-i-init : goal.loop-i-init
loop-i-init g c = made-none _ _

pub loop-i-preserved : goal.loop-i-preserved
loop-i-preserved g c = made-turn _ _ _ _ _ (search rules) c.made.ensures c.loop-i.invariant
