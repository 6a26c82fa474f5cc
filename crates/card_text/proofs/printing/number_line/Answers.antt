-- `card_text::printing::number_line` meets its contract: its key, the number and the newline.
use Rattle.word.proofs.Base.{rules}
use Rattle.card_text.proofs.PrintingLaws.{number_line-of-pieces}
use Rattle.card_text.proofs.printing.number_line.Goals as goal

pub returns-clause-out_after : goal.returns-clause-out_after
returns-clause-out_after c = search (rules, number_line-of-pieces)
