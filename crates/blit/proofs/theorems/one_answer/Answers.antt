-- The theorem is proved in `OneAnswer`.
use Rattle.blit.proofs.OneAnswer.{one_answer}
use Rattle.blit.proofs.theorems.one_answer.Goals as goal

pub returns : goal.returns
returns c = one_answer
