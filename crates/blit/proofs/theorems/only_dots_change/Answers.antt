-- The statement is a case of `OnlyDChanges`.
use Rattle.blit.proofs.ALine.{only-dots-change}
use Rattle.blit.proofs.theorems.only_dots_change.Goals as goal

pub returns : goal.returns
returns c = only-dots-change
