-- `runner::steps::run_steps` meets its contract: each turn takes the step at its place, and the count has room for it.
use Rattle.word.proofs.Base.{rules}
use Rattle.runner.proofs.RunLaws.{run_at-of-end, run_at-of-fault, run_at-turn, run_at-of-refused, stored-le, stored-fits}
use Rattle.job.proofs.StepLaws.{read-falls, read-inside}
use Rattle.runner.proofs.steps.run_steps.Goals as goal

pub overflow_add-done : goal.overflow_add-done
overflow_add-done c = search stored-fits

pub loop-step-smaller : goal.loop-step-smaller
loop-step-smaller c = search (rules, read-falls)

pub loop-step-preserved : goal.loop-step-preserved
loop-step-preserved c = (search run_at-turn, search stored-le, search read-inside, search rules, search rules)

pub returns-in-Err-take : goal.returns-in-Err-take
returns-in-Err-take c = search run_at-of-refused

pub returns-in-Ok-None : goal.returns-in-Ok-None
returns-in-Ok-None c = search run_at-of-end

pub returns-in-Err : goal.returns-in-Err
returns-in-Err c = search run_at-of-fault
