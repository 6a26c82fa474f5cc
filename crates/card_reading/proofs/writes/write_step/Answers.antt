-- `card_reading::writes::write_step` meets its contract: an offset, then a value.
use Rattle.card_reading.proofs.JobLaws.{writes-of-step}
use Rattle.card_reading.proofs.writes.write_step.Goals as goal

pub returns : goal.returns
returns c = search writes-of-step
