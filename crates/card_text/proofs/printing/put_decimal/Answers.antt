-- `card_text::printing::put_decimal` meets its contract: digit by digit.
use Rattle.word.proofs.Base.{rules}
use Rattle.card_text.proofs.PrintingLaws.{decimal-of-pieces}
use Rattle.card_text.proofs.printing.put_decimal.Goals as goal

pub returns-clause-out_after : goal.returns-clause-out_after
returns-clause-out_after c = search (rules, decimal-of-pieces)
