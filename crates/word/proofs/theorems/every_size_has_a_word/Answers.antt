-- The theorem is proved in `SizeLaws`.
use Rattle.word.proofs.SizeLaws.{every-size-has-a-word}
use Rattle.word.proofs.theorems.every_size_has_a_word.Goals as goal

pub returns : goal.returns
returns c = every-size-has-a-word
