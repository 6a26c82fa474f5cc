-- `refusal::touch::dots_leave` meets its contract: the dots passed stay inside, and the first that leaves decides.
use Rattle.refusal.proofs.LineTouchLaws.{Same}
use Rattle.refusal.proofs.touch.dots_leave.Given as goal

abbrev pub invariant-loop-dot : goal.invariant-loop-dot
invariant-loop-dot l = Same l.n l.by l.dots l.initial.mark l.dot l.mark
