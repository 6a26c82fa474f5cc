-- The theorem is proved in `OneAnswer`.
use Rattle.picture.proofs.OneAnswer.{one_answer}
use Rattle.picture.proofs.theorems.one_answer.Goals as goal

pub returns : goal.returns
returns c = one_answer
