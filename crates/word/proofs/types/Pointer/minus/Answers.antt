-- `Pointer::minus` meets its contract: the words lead down below 131,072, and up from there on.
use Rattle.word.proofs.Base.{refl}
use Rattle.word.proofs.RoundLaws.{minus-on}
use Rattle.word.proofs.types.Pointer.minus.Goals as goal

pub returns : goal.returns
returns c = minus-on _ _ _ _ refl c.on.ensures
