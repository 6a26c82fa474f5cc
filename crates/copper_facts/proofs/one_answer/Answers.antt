-- The theorem is proved in `OneAnswerLaws`.
use Rattle.copper_facts.proofs.OneAnswerLaws.{one_answer}
use Rattle.copper_facts.proofs.one_answer.Goals as goal

pub returns : goal.returns
returns c = one_answer
