-- `job::step::step_at` meets its contract: past the end there is no word, and elsewhere the first word's kind decides.
use Rattle.job.proofs.StepLaws.{step_at-at-end, step_at-of-nothing, step_at-of-begun}
use Rattle.job.proofs.step.step_at.Goals as goal

pub returns-then-job-at : goal.returns-then-job-at
returns-then-job-at c = search step_at-at-end

pub returns-in_default : goal.returns-in_default
returns-in_default c = search step_at-of-nothing

pub returns : goal.returns
returns c = search step_at-of-begun
