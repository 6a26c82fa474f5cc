-- `Pointer::moved` meets its contract: a move by one word.
use Rattle.word.proofs.RoundLaws.{word_move-of-one}
use Rattle.word.proofs.types.Pointer.moved.Goals as goal

pub returns : goal.returns
returns c = word_move-of-one _ _ _ c.passed.ensures
