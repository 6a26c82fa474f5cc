use Rattle.word.proofs.Base.{arith, rules}
use Rattle.block.proofs.EachLaws.{row-fits}
use Rattle.block.proofs.FillLaws.{rows-filled-none, rows-filled-turn}
use Rattle.block.proofs.fill.carry_rows.Goals as goal

pub loop-row-init : goal.loop-row-init
loop-row-init c = rows-filled-none

pub carry_row-over-requires : goal.carry_row-over-requires
carry_row-over-requires c = omega (arith, row-fits _ c.args.size.width _ c.loop-row-test.true, c.requires.1)

pub overflow_mul-row : goal.overflow_mul-row
overflow_mul-row c = omega (arith, row-fits _ c.args.size.width _ c.loop-row-test.true, c.requires.1)

pub loop-row-preserved : goal.loop-row-preserved
loop-row-preserved c = rows-filled-turn (search rules) (search rules) c.loop-row.invariant c.carry_row-over.ensures
