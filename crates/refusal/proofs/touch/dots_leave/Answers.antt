use Rattle.refusal.proofs.LineTouchLaws.{same-at-first, same-when-leaves, same_turn, same-done}
use Rattle.refusal.proofs.touch.dots_leave.Goals as goal

pub loop-dot-init : goal.loop-dot-init
loop-dot-init c = search same-at-first

pub returns-then-n-word_of : goal.returns-then-n-word_of
returns-then-n-word_of c = search same-when-leaves

pub loop-dot-preserved : goal.loop-dot-preserved
loop-dot-preserved c = search same_turn

pub returns : goal.returns
returns c = search same-done
