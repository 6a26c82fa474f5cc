use Rattle.word.proofs.Base.{refl, rules}
use Rattle.block.proofs.FillLaws.{row-filled-none, row-filled-turn}
use Rattle.block.proofs.fill.carry_row.Goals as goal

pub loop-i-init : goal.loop-i-init
loop-i-init c = row-filled-none

pub loop-i-preserved : goal.loop-i-preserved
loop-i-preserved c = row-filled-turn (search rules) (search rules) refl c.spread-over.ensures c.loop-i.invariant
