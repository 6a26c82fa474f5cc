-- `runner::run` meets its contract: the tests before the first step are the rules of the list, in the list's order.
use Rattle.runner.proofs.RunLaws.{run-by-memory, run-by-file, run-by-length, run-by-steps}
use Rattle.job.proofs.LengthLaws.{job_length-when-short}
use Rattle.runner.proofs.run.Goals as goal

pub returns-then-memory_size : goal.returns-then-memory_size
returns-then-memory_size c = search run-by-memory

pub returns-then-not-accepted : goal.returns-then-not-accepted
returns-then-not-accepted c = search run-by-file

pub returns-then-job_length : goal.returns-then-job_length
returns-then-job_length c = search run-by-length

pub run_steps-requires : goal.run_steps-requires
run_steps-requires c = search job_length-when-short

pub returns : goal.returns
returns c = search run-by-steps
