-- `card_text::printing::put` meets its contract: the byte is set, and the place goes on by one.
use Rattle.word.proofs.Base.{rules}
use Rattle.card_text.proofs.WritingLaws.{writing-of-put}
use Rattle.card_text.proofs.printing.put.Goals as goal

pub returns-clause-out_after : goal.returns-clause-out_after
returns-clause-out_after c = search (rules, writing-of-put)
