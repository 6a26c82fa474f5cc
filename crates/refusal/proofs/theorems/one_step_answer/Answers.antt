-- The theorem is proved in `OneAnswerLaws`.
use Rattle.refusal.proofs.OneAnswerLaws.{one-step-answer}
use Rattle.refusal.proofs.theorems.one_step_answer.Goals as goal

pub returns : goal.returns
returns c = one-step-answer
