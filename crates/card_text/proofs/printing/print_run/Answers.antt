-- `card_text::printing::print_run` meets its contract: four lines, then the changed words.
use Rattle.word.proofs.Base.{rules}
use Rattle.card_text.proofs.PrintingLaws.{printed_run-of-pieces}
use Rattle.card_text.proofs.printing.print_run.Goals as goal

pub returns : goal.returns
returns c = search (rules, printed_run-of-pieces)
