-- `block::each::each` meets its contract: each turn makes one word more, in its place.
use Rattle.block.proofs.EachLaws.{MadeTo}
use Rattle.block.proofs.each.each.Given as goal

abbrev pub invariant-loop-i : goal.invariant-loop-i
invariant-loop-i g l = MadeTo l.i l.x l.initial.x (goal.F-post g l.made)
