-- `blocks::one::store_words` meets its contract: all words, or none.
use Rattle.word.proofs.ChoiceLaws.{if-when-true, if-when-false}
use Rattle.word.proofs.Base.{rules}
use Rattle.blocks.proofs.one.store_words.Goals as goal

pub rows-requires : goal.rows-requires
rows-requires c = c.requires c.if-setup.true

pub returns-then-setup : goal.returns-then-setup
returns-then-setup c = search (rules, if-when-true)

pub returns-else-setup : goal.returns-else-setup
returns-else-setup c = search (rules, if-when-false)
