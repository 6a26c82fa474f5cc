-- `card_reading::writes::write_order` meets its contract: the keys before size, those after it, size.
use Rattle.card_reading.proofs.JobLaws.{write_order-before-size, write_order-after-size, write_order-of-size}
use Rattle.word.proofs.Base.{rules}
use Rattle.card_reading.proofs.writes.write_order.Goals as goal

pub returns-then-step-lt12 : goal.returns-then-step-lt12
returns-then-step-lt12 c = record { value = search write_order-before-size; upper_bound = search rules }

pub returns-then-step-lt19 : goal.returns-then-step-lt19
returns-then-step-lt19 c = record { value = search write_order-after-size; upper_bound = search rules }

pub returns : goal.returns
returns c = record { value = search write_order-of-size; upper_bound = search rules }
