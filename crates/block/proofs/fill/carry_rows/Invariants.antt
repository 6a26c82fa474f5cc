-- `block::fill::carry_rows` meets its contract, row by row.
use Rattle.word.proofs.Base.{◌*◌}
use Rattle.block.specs.Inner.Carry.{RowsFilled}
use Rattle.block.proofs.fill.carry_rows.Given as goal

abbrev pub invariant-loop-row : goal.invariant-loop-row
invariant-loop-row l = RowsFilled l.start l.size.width (l.size.height * l.size.width) (l.row * l.size.width) l.over l.q l.initial.q
