-- `block::shift::shift` meets its contract: by nought the words themselves, else the first word with the one before the
-- block, each other with the one before it.
use Rattle.word.proofs.Base.{◌+◌}
use Rattle.quiet.specs.Words.{shifted_at}
use Rattle.block.specs.Inner.Each.{at, Each}
use Rattle.block.proofs.shift.shift.Given as goal

abbrev pub invariant-loop-i : goal.invariant-loop-i
invariant-loop-i l = Each (l.i + 1) l.y (shifted_at l.direction l.by l.earlier (at l.x))
