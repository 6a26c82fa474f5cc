-- `instruction::permitted::permitted` meets its contract: the tests are the definition's.
use Rattle.instruction.proofs.PermittedLaws.{permitted-from-080, permitted-below-040, permitted-of-danger}
use Rattle.instruction.proofs.permitted.permitted.Goals as goal

pub returns-then-offset-ge128 : goal.returns-then-offset-ge128
returns-then-offset-ge128 c = search permitted-from-080

pub returns-then-offset-lt64 : goal.returns-then-offset-lt64
returns-then-offset-lt64 c = search permitted-below-040

pub returns : goal.returns
returns c = search permitted-of-danger
