-- The theorem is proved in `TwelveBits`.
use Rattle.picture.proofs.TwelveBits.{twelve-bits}
use Rattle.picture.proofs.theorems.twelve_bits.Goals as goal

pub returns : goal.returns
returns c = twelve-bits
