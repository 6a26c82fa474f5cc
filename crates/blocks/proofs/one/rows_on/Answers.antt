-- `blocks::one::rows_on` meets its contract: so many strides on.
use Rattle.word.proofs.Base.{arith, rules}
use Rattle.word.proofs.ChoiceLaws.{if-when-true, if-when-false}
use Rattle.block.proofs.PlaceLaws.{rows-far}
use Rattle.blocks.specs.Inner.Block.{row_at}
use Rattle.blocks.proofs.one.rows_on.Goals as goal

pub overflow_mul-result : goal.overflow_mul-result
overflow_mul-result c = omega (arith, rows-far _ _ c.requires.2 c.requires.1)

pub overflow_add-result : goal.overflow_add-result
overflow_add-result c = omega (arith, rows-far _ _ c.requires.2 c.requires.1)

pub returns-then-used : goal.returns-then-used
unfolding row_at
returns-then-used c = search (rules, if-when-true)

pub returns : goal.returns
returns c = search (rules, if-when-false)
