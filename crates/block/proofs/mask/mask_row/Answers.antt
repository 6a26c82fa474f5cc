-- `block::mask::mask_row` meets its contract.
use Rattle.word.proofs.Base.{refl}
use Rattle.block.specs.Inner.Each.{masked_in}
use Rattle.block.proofs.mask.mask_row.Goals as goal

pub returns : goal.returns
unfolding masked_in
returns c = refl
