-- `card_text::printing::changed_word` meets its contract: a word that is its own number has no line.
use Rattle.word.proofs.Base.{rules}
use Rattle.card_text.proofs.PrintingLaws.{changed_word-when-same, changed_word-when-other}
use Rattle.card_text.proofs.printing.changed_word.Goals as goal

pub returns-then-word-place-clause-out_after : goal.returns-then-word-place-clause-out_after
returns-then-word-place-clause-out_after c = search (rules, changed_word-when-same)

pub returns-clause-out_after : goal.returns-clause-out_after
returns-clause-out_after c = search (rules, changed_word-when-other)
