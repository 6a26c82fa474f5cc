-- `card_text::printing::put_hex5` meets its contract: a digit, then four.
use Rattle.word.proofs.Base.{rules}
use Rattle.card_text.proofs.PrintingLaws.{hex5-of-pieces}
use Rattle.card_text.proofs.printing.put_hex5.Goals as goal

pub returns-clause-out_after : goal.returns-clause-out_after
returns-clause-out_after c = search (rules, hex5-of-pieces)
