-- `card_reading::keys::offset` meets its contract: the table's offsets are the list of offsets.
use Rattle.card_reading.specs.Job.{offsets}
use Rattle.card_reading.proofs.KeysLaws.{in_order, offset-in-order}
use Rattle.card_reading.proofs.keys.offset.Goals as goal

pub returns : goal.returns
unfolding offsets in_order
returns c = search offset-in-order
