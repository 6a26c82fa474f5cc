-- `runner::step::flag_step` meets its contract: the flag is written to its place.
use Rattle.runner.proofs.EffectLaws.{step_effect-of-flag}
use Rattle.runner.proofs.step.flag_step.Goals as goal

pub returns : goal.returns
returns c = search step_effect-of-flag
