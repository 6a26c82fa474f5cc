-- The statement is a law of the dots.
use Rattle.blit.proofs.ALine.{a-word-a-row}
use Rattle.blit.proofs.theorems.a_word_a_row.Goals as goal

pub returns : goal.returns
returns c = a-word-a-row
