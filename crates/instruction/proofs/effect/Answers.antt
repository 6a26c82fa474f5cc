-- `instruction::effect` meets its contract: 23 comes first, then the instruction that stands there.
use Rattle.word.proofs.Base.{arith}
use Rattle.instruction.proofs.EffectLaws.{effect-when-outside, effect-when-inside}
use Rattle.instruction.proofs.effect.Goals as goal

pub returns-then-ram-here : goal.returns-then-ram-here
returns-then-ram-here c = effect-when-outside _ _ _ (omega arith)

pub returns : goal.returns
returns c = search effect-when-inside
