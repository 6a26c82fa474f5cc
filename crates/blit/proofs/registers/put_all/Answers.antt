-- `blit::registers::put_all` meets its contract: pointers, sources, flag.
use Rattle.blit.proofs.BlitLaws.{write_back-of-parts}
use Rattle.blit.proofs.registers.put_all.Goals as goal

pub returns : goal.returns
returns c = search write_back-of-parts
