-- The theorem is proved in `OneAnswer`.
use Rattle.blit.proofs.OneAnswer.{one-step-answer}
use Rattle.blit.proofs.theorems.one_step_answer.Goals as goal

pub returns : goal.returns
returns c = one-step-answer
