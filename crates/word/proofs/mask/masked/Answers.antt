-- `word::mask::masked` meets its contract: the first word's mask, then the last word's.
use Rattle.word.proofs.MaskLaws.{masked-of-both}
use Rattle.word.proofs.mask.masked.Goals as goal

pub returns : goal.returns
returns c = search masked-of-both
