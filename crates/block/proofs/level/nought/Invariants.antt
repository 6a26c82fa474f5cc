-- `block::level::nought` meets its contract: the OR of words is nought where each is.
use Rattle.word.proofs.Base.{◌≡◌, eqb}
use Rattle.block.specs.Inner.Each.{nought, at}
use Rattle.block.proofs.level.nought.Given as goal

abbrev pub invariant-loop-i : goal.invariant-loop-i
invariant-loop-i l = eqb l.any 0 ≡ nought l.i (at l.o)
