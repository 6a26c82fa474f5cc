-- `block::fill::carry_row` meets its contract: what turns a word over is the carry that comes to it.
use Rattle.block.specs.Inner.Carry.{RowFilled}
use Rattle.block.proofs.fill.carry_row.Given as goal

abbrev pub invariant-loop-i : goal.invariant-loop-i
invariant-loop-i l = RowFilled l.start l.width l.s l.i l.over l.q l.initial.q
