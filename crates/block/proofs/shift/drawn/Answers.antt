-- `block::shift::drawn` meets its contract: the pair's bits, each from its word.
use Rattle.word.proofs.Base.{arith, rules}
use Rattle.block.proofs.ShiftLaws.{drawn-up, drawn-down}
use Rattle.block.proofs.shift.drawn.Goals as goal

pub overflow_add-result : goal.overflow_add-result
overflow_add-result c = omega (arith, drawn-up c.args.by c.args.earlier c.args.this c.requires (search rules) (search rules))

pub overflow_add-result-in-Descending : goal.overflow_add-result-in-Descending
overflow_add-result-in-Descending c = omega (arith, drawn-down c.args.by c.args.earlier c.args.this c.requires (search rules) (search rules))

pub returns-in-Ascending : goal.returns-in-Ascending
returns-in-Ascending c = rw c.in-Ascending.is (drawn-up _ _ _ c.requires (search rules) (search rules))

pub returns-in-Descending : goal.returns-in-Descending
returns-in-Descending c = rw c.in-Descending.is (drawn-down _ _ _ c.requires (search rules) (search rules))
