-- `instruction::instruction_effect` meets its contract: each kind has its own effect.
use Rattle.instruction.proofs.EffectLaws.{instruction_effect-of-move, instruction_effect-of-wait, instruction_effect-of-skip}
use Rattle.instruction.proofs.instruction_effect.Goals as goal

pub returns-in-Move : goal.returns-in-Move
returns-in-Move c = search instruction_effect-of-move

pub returns-in-Wait : goal.returns-in-Wait
returns-in-Wait c = search instruction_effect-of-wait

pub returns-in-Skip : goal.returns-in-Skip
returns-in-Skip c = search instruction_effect-of-skip
