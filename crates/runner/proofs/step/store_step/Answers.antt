-- `runner::step::store_step` meets its contract: the one test is the definition's.
use Rattle.runner.proofs.EffectLaws.{step_effect-when-outside, step_effect-when-inside}
use Rattle.runner.proofs.step.store_step.Goals as goal

pub returns-then-ram-to : goal.returns-then-ram-to
returns-then-ram-to c = search step_effect-when-outside

pub returns : goal.returns
returns c = search step_effect-when-inside
