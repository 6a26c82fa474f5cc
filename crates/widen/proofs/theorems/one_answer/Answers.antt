-- The theorem is proved in `OneAnswer`.
use Rattle.widen.proofs.OneAnswer.{one_answer}
use Rattle.widen.proofs.theorems.one_answer.Goals as goal

pub returns : goal.returns
returns c = one_answer
