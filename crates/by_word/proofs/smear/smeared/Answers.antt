use Rattle.word.proofs.Base.{arith, rules}
use Rattle.by_word.specs.Inner.Smear.{smeared_word}
use Rattle.by_word.proofs.SmearLaws.{smeared-none, smeared-turn, smeared-done}
use Rattle.by_word.proofs.smear.smeared.Goals as goal

pub loop-i-init : goal.loop-i-init
loop-i-init c = (search rules, search rules, smeared-none _ _ _ _ _)

pub loop-i-preserved : goal.loop-i-preserved
unfolding smeared_word
loop-i-preserved c = (search rules, search rules, smeared-turn _ _ _ _ _ _ _ _ _ _ (rw c.shifted.ensures) (omega arith) c.loop-i.invariant.2)

pub returns : goal.returns
returns c = smeared-done _ _ _ _ _ _ _ _ _ _ (omega arith) (omega arith) c.loop-i.invariant.2
