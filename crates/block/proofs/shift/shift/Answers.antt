use Rattle.word.proofs.Base.{sym, ◌∙◌, add-one, rules}
use Rattle.quiet.specs.Words.{word_before, shifted_at}
use Rattle.block.specs.Inner.Each.{at}
use Rattle.block.proofs.EachLaws.{never, each-copied, each_none, each_turn}
use Rattle.block.proofs.shift.shift.Goals as goal

pub returns-then-not-need : goal.returns-then-not-need
returns-then-not-need c = λ yes. never (sym yes ∙ c.if-not-need.true)

pub returns-then-by-eq0 : goal.returns-then-by-eq0
returns-then-by-eq0 c = λ _. each-copied _ _ _ _ (c.unmoved.ensures _) c.copied.ensures

pub loop-i-init : goal.loop-i-init
unfolding word_before shifted_at at
loop-i-init c = each_turn _ _ _ _ (search rules) c.drawn.ensures (each_none _ _)

pub loop-i-preserved : goal.loop-i-preserved
unfolding word_before shifted_at at
loop-i-preserved c = each_turn _ _ _ _ (search rules) (c.drawn-in-loop-i.ensures ∙ rw add-one) c.loop-i.invariant
