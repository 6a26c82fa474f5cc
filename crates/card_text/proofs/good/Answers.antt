-- `card_text::good` meets its contract: the job is the card's, on as many words as it asks for.
use Rattle.card_text.proofs.CardLaws.{prefix-length, prefix-le, printed_run-of-job}
use Rattle.card_text.proofs.good.Goals as goal

pub slice_bounds-run_on-end : goal.slice_bounds-run_on-end
slice_bounds-run_on-end c = search prefix-length

pub run_on-requires : goal.run_on-requires
run_on-requires c = search prefix-le

pub returns : goal.returns
returns c = search printed_run-of-job
