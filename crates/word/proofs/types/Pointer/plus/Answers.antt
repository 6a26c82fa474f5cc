-- `Pointer::plus` meets its contract: the words lead up below 131,072, and down from there on.
use Rattle.word.proofs.Base.{refl}
use Rattle.word.proofs.RoundLaws.{plus-on}
use Rattle.word.proofs.types.Pointer.plus.Goals as goal

pub returns : goal.returns
returns c = plus-on _ _ _ _ refl c.on.ensures
