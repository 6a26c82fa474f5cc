-- `card_text::printing::print_bad` meets its contract: two lines.
use Rattle.word.proofs.Base.{rules}
use Rattle.card_text.proofs.PrintingLaws.{printed_bad-of-pieces}
use Rattle.card_text.proofs.printing.print_bad.Goals as goal

pub returns : goal.returns
returns c = search (rules, printed_bad-of-pieces)
