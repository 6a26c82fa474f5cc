-- `blit::registers::write_back` meets its contract: the pointers, the sources, the flag, in a whole file or any other.
use Rattle.blit.proofs.BlitLaws.{write_back-of-parts}
use Rattle.blit.proofs.registers.write_back.Goals as goal

pub returns : goal.returns
returns c = search write_back-of-parts
