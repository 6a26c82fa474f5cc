-- `card_text::printing::word_line` meets its contract: its key, the number, the colon, the word and the newline.
use Rattle.word.proofs.Base.{rules}
use Rattle.card_text.proofs.PrintingLaws.{word_line-of-pieces}
use Rattle.card_text.proofs.printing.word_line.Goals as goal

pub returns-clause-out_after : goal.returns-clause-out_after
returns-clause-out_after c = search (rules, word_line-of-pieces)
