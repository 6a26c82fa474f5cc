-- The theorem is proved in `EachNumberExactlyLaws`.
use Rattle.runner.proofs.EachNumberExactlyLaws.{each-number-exactly}
use Rattle.runner.proofs.theorems.each_number_exactly.Goals as goal

pub returns : goal.returns
returns c = each-number-exactly
