use Rattle.word.proofs.Base.{refl, arith, rules}
use Rattle.block.proofs.EachLaws.{each-no-row, row-fits}
use Rattle.block.proofs.PlaceLaws.{walks-none, walks-inside, walks_turn, fetch-rows-turn}
use Rattle.block.proofs.fetch.each_row.Goals as goal

pub loop-number-init : goal.loop-number-init
loop-number-init c = (walks-none c.requires, each-no-row _ _ _)

pub row-requires : goal.row-requires
row-requires c = (walks-inside c.requires refl (search rules) c.loop-number.invariant.0, omega (arith, row-fits _ c.args.size.width _ c.loop-number-test.true, c.requires.room))

pub overflow_mul-number : goal.overflow_mul-number
overflow_mul-number c = omega (arith, row-fits _ c.args.size.width _ c.loop-number-test.true, c.requires.room)

pub overflow_add-start : goal.overflow_add-start
overflow_add-start c = omega (arith, c.loop-number.invariant.0.small, c.requires.strides)

pub loop-number-preserved : goal.loop-number-preserved
loop-number-preserved c = (walks_turn c.loop-number.invariant.0, fetch-rows-turn _ _ _ _ c.loop-number.invariant.0 _ c.loop-number.invariant.1 c.row.ensures)
