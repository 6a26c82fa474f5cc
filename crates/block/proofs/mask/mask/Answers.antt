use Rattle.word.proofs.Base.{refl, arith, rules}
use Rattle.block.proofs.EachLaws.{each-no-row, kept-all, row-fits}
use Rattle.block.proofs.MaskLaws.{masked-all-ones, mask-turn}
use Rattle.block.proofs.mask.mask.Goals as goal

pub returns-then-masks : goal.returns-then-masks
returns-then-masks c = masked-all-ones _ _ _ _ c.if-masks.true c.first_word.ensures

pub loop-row-init : goal.loop-row-init
loop-row-init c = (search rules, kept-all _ _, each-no-row _ _ _)

pub mask_row-requires : goal.mask_row-requires
mask_row-requires c = (search rules, omega (arith, row-fits _ c.args.size.width _ c.loop-row-test.true, c.requires.1))

pub overflow_mul-start : goal.overflow_mul-start
overflow_mul-start c = omega (arith, row-fits _ c.args.size.width _ c.loop-row-test.true, c.requires.1)

pub loop-row-preserved : goal.loop-row-preserved
loop-row-preserved c = let turn = mask-turn _ _ _ _ _ _ _ (search rules) refl (omega (arith, row-fits _ c.args.size.width _ c.loop-row-test.true, c.requires.1, c.loop-row.invariant.0)) c.mask_row.ensures c.loop-row.invariant.1 c.loop-row.invariant.2 in (search rules, turn.0, turn.1)
