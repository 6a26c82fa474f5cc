-- `card_text::run_on` meets its contract: what is printed is the run's.
use Rattle.card_text.proofs.CardLaws.{printed_run-of-answer}
use Rattle.card_text.specs.Run.{zeros}
use Rattle.card_text.proofs.run_on.Goals as goal

pub returns : goal.returns
unfolding zeros
returns c = search printed_run-of-answer
