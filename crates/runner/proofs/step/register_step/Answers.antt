-- `runner::step::register_step` meets its contract: what the register keeps is written to its place.
use Rattle.runner.proofs.EffectLaws.{step_effect-of-register}
use Rattle.runner.proofs.step.register_step.Goals as goal

pub returns : goal.returns
returns c = search step_effect-of-register
