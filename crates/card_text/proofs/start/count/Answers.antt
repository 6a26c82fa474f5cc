use Rattle.word.proofs.Base.{refl, rules}
use Rattle.card_text.proofs.RunLaws.{counted_start, counted-turn, counted-done}
use Rattle.card_text.proofs.start.count.Goals as goal

pub loop-at-init : goal.loop-at-init
loop-at-init c = (counted_start _ _ refl, search rules)

pub loop-at-preserved : goal.loop-at-preserved
loop-at-preserved c = (search (rules, counted-turn), search rules)

pub returns : goal.returns
returns c = search (rules, counted-done)
