-- `card_text::printing::put_hex4` meets its contract: digit by digit.
use Rattle.word.proofs.Base.{rules}
use Rattle.card_text.proofs.PrintingLaws.{hex4-of-pieces}
use Rattle.card_text.proofs.printing.put_hex4.Goals as goal

pub returns-clause-out_after : goal.returns-clause-out_after
returns-clause-out_after c = search (rules, hex4-of-pieces)
