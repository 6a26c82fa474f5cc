-- The theorem is proved in `ShiftLaws`.
use Rattle.word.proofs.ShiftLaws.{shifted-by-zero}
use Rattle.word.proofs.theorems.shift_of_nought.Goals as goal

pub returns : goal.returns
returns c = shifted-by-zero
