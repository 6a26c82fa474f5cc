-- `instruction::read::instruction` meets its contract: parity tells the kind.
use Rattle.instruction.proofs.InstructionLaws.{instruction-of-move, instruction-of-wait, instruction-of-skip}
use Rattle.instruction.proofs.read.instruction.Goals as goal

pub returns-then-second-eq1 : goal.returns-then-second-eq1
returns-then-second-eq1 c = search instruction-of-skip

pub returns-then-first-eq1 : goal.returns-then-first-eq1
returns-then-first-eq1 c = search instruction-of-wait

pub returns : goal.returns
returns c = search instruction-of-move
