-- `runner::step::take` meets its contract: each kind of step has its own function.
use Rattle.runner.proofs.EffectLaws.{step_effect-of-kind, step_effect-of-size}
use Rattle.runner.proofs.step.take.Goals as goal

pub returns-in-Register : goal.returns-in-Register
returns-in-Register c = search step_effect-of-kind

pub returns-in-Size : goal.returns-in-Size
returns-in-Size c = search step_effect-of-size

pub returns-in-Store : goal.returns-in-Store
returns-in-Store c = search step_effect-of-kind

pub returns-in-Flag : goal.returns-in-Flag
returns-in-Flag c = search step_effect-of-kind
