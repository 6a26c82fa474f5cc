-- The theorem is proved in `RunAppendLaws`.
use Rattle.runner.proofs.RunAppendLaws.{run-append}
use Rattle.runner.proofs.theorems.run_append.Goals as goal

pub returns : goal.returns
returns c = run-append
