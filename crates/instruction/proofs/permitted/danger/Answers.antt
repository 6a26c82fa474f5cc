-- `instruction::permitted::danger` meets its contract: it looks at bit 1 of COPCON.
use Rattle.instruction.proofs.PermittedLaws.{danger-of-word}
use Rattle.instruction.proofs.permitted.danger.Goals as goal

pub returns : goal.returns
returns c = search danger-of-word
