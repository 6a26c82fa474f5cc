-- `instruction::blitted` meets its contract: the MOVE answers what its blit answers.
use Rattle.instruction.proofs.EffectLaws.{blitted-when-done, blitted-when-refused}
use Rattle.instruction.proofs.blitted.Goals as goal

pub returns-in_err-blit_step : goal.returns-in_err-blit_step
returns-in_err-blit_step c = search (blitted-when-refused, c.in_err-blit_step.was, c.from_residual.ensures)

pub returns : goal.returns
returns c = search (blitted-when-done, c.in_ok-blit_step.was)
