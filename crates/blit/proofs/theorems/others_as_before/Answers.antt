-- The statement is a law of what a line leaves.
use Rattle.blit.proofs.ALine.{others-as-before}
use Rattle.blit.proofs.theorems.others_as_before.Goals as goal

pub returns : goal.returns
returns c = others-as-before
