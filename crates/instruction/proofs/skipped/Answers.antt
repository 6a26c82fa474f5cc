-- `instruction::skipped` meets its contract: one test decides.
use Rattle.instruction.proofs.EffectLaws.{skipped-when-satisfied, skipped-when-not}
use Rattle.instruction.proofs.skipped.Goals as goal

pub returns-then-satisfied : goal.returns-then-satisfied
returns-then-satisfied c = search skipped-when-satisfied

pub returns : goal.returns
returns c = search skipped-when-not
