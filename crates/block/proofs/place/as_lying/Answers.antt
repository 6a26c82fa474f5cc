-- `block::place::as_lying` meets its contract: as one row, or as they are.
use Rattle.word.proofs.Base.{arith, rules}
use Rattle.block.proofs.PlaceLaws.{no-wider, as-they-are, as-one-row}
use Rattle.block.proofs.place.as_lying.Goals as goal

pub returns-then-size-eq1 : goal.returns-then-size-eq1
returns-then-size-eq1 c = as-they-are

pub together-requires : goal.together-requires
together-requires c = (search rules, search rules, no-wider _ _ c.requires.3 c.requires.4, search rules)

pub overflow_mul-width : goal.overflow_mul-width
overflow_mul-width c = omega (arith, c.requires.4)

pub returns-then-together : goal.returns-then-together
returns-then-together c = as-one-row c.requires.0 c.requires.3 (c.together.ensures c.if-together.true)

pub returns : goal.returns
returns c = as-they-are
