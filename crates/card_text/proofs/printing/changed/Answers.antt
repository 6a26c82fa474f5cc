use Rattle.word.proofs.Base.{rules}
use Rattle.card_text.proofs.PrintingLaws.{changed-turn, changed-done}
use Rattle.card_text.proofs.printing.changed.Goals as goal

pub loop-place-preserved : goal.loop-place-preserved
loop-place-preserved c = (search (rules, changed-turn), search rules, search rules)

pub returns-clause-out_after : goal.returns-clause-out_after
returns-clause-out_after c = search (rules, changed-done)
