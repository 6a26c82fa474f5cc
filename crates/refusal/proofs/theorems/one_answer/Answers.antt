-- The theorem is proved in `OneAnswerLaws`.
use Rattle.refusal.proofs.OneAnswerLaws.{one_answer}
use Rattle.refusal.proofs.theorems.one_answer.Goals as goal

pub returns : goal.returns
returns c = one_answer
