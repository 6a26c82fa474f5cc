-- The theorem is proved in `OneAnswerLaws`.
use Rattle.folder.proofs.OneAnswerLaws.{one_answer}
use Rattle.folder.proofs.theorems.one_answer.Goals as goal

pub returns : goal.returns
returns c = one_answer
