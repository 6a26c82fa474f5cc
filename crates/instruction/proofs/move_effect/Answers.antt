-- `instruction::move_effect` meets its contract: 21, then 22, then the blit or the register.
use Rattle.instruction.proofs.EffectLaws.{instruction_effect-when-forbidden, instruction_effect-when-not-modelled, instruction_effect-of-size, instruction_effect-of-register}
use Rattle.instruction.proofs.move_effect.Goals as goal

pub returns-then-not-may : goal.returns-then-not-may
returns-then-not-may c = search instruction_effect-when-forbidden

pub returns-then-not-known : goal.returns-then-not-known
returns-then-not-known c = search instruction_effect-when-not-modelled

pub returns-then-offset-eq-SIZE_OFFSET : goal.returns-then-offset-eq-SIZE_OFFSET
returns-then-offset-eq-SIZE_OFFSET c = search instruction_effect-of-size

pub returns : goal.returns
returns c = search instruction_effect-of-register
