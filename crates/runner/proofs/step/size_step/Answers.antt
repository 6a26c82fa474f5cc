-- `runner::step::size_step` meets its contract: the step answers what the blit answers.
use Rattle.runner.proofs.EffectLaws.{blit_step-when-done, blit_step-when-refused}
use Rattle.runner.proofs.step.size_step.Goals as goal

pub returns-in_err-blit_step : goal.returns-in_err-blit_step
returns-in_err-blit_step c = search (blit_step-when-refused, c.in_err-blit_step.was, c.from_residual.ensures)

pub returns : goal.returns
returns c = search (blit_step-when-done, c.in_ok-blit_step.was)
