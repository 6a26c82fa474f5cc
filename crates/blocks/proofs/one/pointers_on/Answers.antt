-- `blocks::one::pointers_on` meets its contract, channel by channel.
use Rattle.word.proofs.Base.{refl}
use Rattle.blocks.proofs.one.pointers_on.Goals as goal

pub returns : goal.returns
returns c = rw (c.rows_on-4.ensures, c.rows_on-3.ensures, c.rows_on-2.ensures, c.rows_on.ensures) refl
