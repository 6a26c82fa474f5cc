-- The theorem is proved in `OnlyDChanges`.
use Rattle.blit.proofs.OnlyDChanges.{only-d-changes}
use Rattle.blit.proofs.theorems.only_d_changes.Goals as goal

pub returns : goal.returns
returns c = only-d-changes
