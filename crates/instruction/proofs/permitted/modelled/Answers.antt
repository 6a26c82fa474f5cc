-- `instruction::permitted::modelled` meets its contract: no register stands at the flag's place.
use Rattle.instruction.proofs.PermittedLaws.{modelled-of-place}
use Rattle.instruction.proofs.permitted.modelled.Goals as goal

pub returns : goal.returns
returns c = search modelled-of-place
