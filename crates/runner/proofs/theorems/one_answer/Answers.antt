-- The theorem is proved in `OneAnswerLaws`.
use Rattle.runner.proofs.OneAnswerLaws.{one_answer}
use Rattle.runner.proofs.theorems.one_answer.Goals as goal

pub returns : goal.returns
returns c = one_answer
