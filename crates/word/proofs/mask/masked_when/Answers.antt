-- `word::mask::masked_when` meets its contract, case by case.
use Rattle.word.proofs.MaskLaws.{masked_when-when-applies, masked_when-when-passed}
use Rattle.word.proofs.mask.masked_when.Goals as goal

pub returns-then-applies : goal.returns-then-applies
returns-then-applies c = search masked_when-when-applies

pub returns : goal.returns
returns c = search masked_when-when-passed
