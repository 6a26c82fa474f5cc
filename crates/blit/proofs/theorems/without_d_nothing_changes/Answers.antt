-- The theorem is proved in `OnlyDChanges`.
use Rattle.blit.proofs.OnlyDChanges.{without-d-nothing-changes}
use Rattle.blit.proofs.theorems.without_d_nothing_changes.Goals as goal

pub returns : goal.returns
returns c = without-d-nothing-changes
