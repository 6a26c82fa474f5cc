-- `card_facts::keys_are_registers` holds its theorem: both lists are written out, and computed.
use Rattle.word.proofs.Base.{refl}
use Rattle.card_reading.specs.Job.{offsets}
use Rattle.card_facts.proofs.keys_are_registers.Goals as goal

pub returns : goal.returns
unfolding offsets
returns c = refl
