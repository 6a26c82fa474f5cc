-- `card_text::printing::dpt_line` meets its contract: its key, the address and the newline.
use Rattle.word.proofs.Base.{rules}
use Rattle.card_text.proofs.PrintingLaws.{dpt_line-of-pieces}
use Rattle.card_text.proofs.printing.dpt_line.Goals as goal

pub returns-clause-out_after : goal.returns-clause-out_after
returns-clause-out_after c = search (rules, dpt_line-of-pieces)
