-- `desk::desk_run` meets its contract: it tells what the run answers; its place is small.
use Rattle.desk.proofs.PlaceLaws.{run-place-lt, run-of-answer}
use Rattle.desk.proofs.desk_run.Goals as goal

pub overflow_cast-place : goal.overflow_cast-place
overflow_cast-place c = search run-place-lt

pub returns : goal.returns
returns c = search run-of-answer
