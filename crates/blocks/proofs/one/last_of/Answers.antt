-- `blocks::one::last_of` meets its contract.
use Rattle.word.proofs.Base.{sym, ◌∙◌}
use Rattle.blocks.proofs.one.last_of.Goals as goal

pub last_word-requires : goal.last_word-requires
last_word-requires c = c.requires (sym c.ignored.ensures ∙ c.if-ignored.true)

pub returns-then-ignored : goal.returns-then-ignored
returns-then-ignored c = c.last_word.ensures ∙ rw (sym c.ignored.ensures ∙ c.if-ignored.true)

pub returns : goal.returns
returns c = rw (sym c.ignored.ensures ∙ c.if-ignored.false)
