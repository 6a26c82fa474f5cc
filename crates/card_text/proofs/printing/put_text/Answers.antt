-- `card_text::printing::put_text` meets its contract: the text is laid, and the place goes on by its length.
use Rattle.word.proofs.Base.{rules}
use Rattle.card_text.proofs.WritingLaws.{writing-of-all}
use Rattle.card_text.proofs.printing.put_text.Goals as goal

pub returns-clause-out_after : goal.returns-clause-out_after
returns-clause-out_after c = search (rules, writing-of-all)
