-- `card_text::printing::put_leading` meets its contract: the digit stands where the number reaches its power.
use Rattle.word.proofs.Base.{rules}
use Rattle.card_text.proofs.PrintingLaws.{leading-when-small, leading-when-reached}
use Rattle.card_text.proofs.printing.put_leading.Goals as goal

pub returns-then-n-power-clause-out_after : goal.returns-then-n-power-clause-out_after
returns-then-n-power-clause-out_after c = search (rules, leading-when-small)

pub returns-clause-out_after : goal.returns-clause-out_after
returns-clause-out_after c = search (rules, leading-when-reached)
