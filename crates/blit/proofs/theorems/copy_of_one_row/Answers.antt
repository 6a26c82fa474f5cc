-- The theorem is proved in `CopyOfOneRow`.
use Rattle.blit.proofs.CopyOfOneRow.{copy-of-one-row}
use Rattle.blit.proofs.theorems.copy_of_one_row.Goals as goal

pub returns : goal.returns
returns c = copy-of-one-row
