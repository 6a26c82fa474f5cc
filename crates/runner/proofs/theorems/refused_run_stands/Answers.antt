-- The theorem is proved in `RefusedRunStandsLaws`.
use Rattle.runner.proofs.RefusedRunStandsLaws.{refused-run-stands}
use Rattle.runner.proofs.theorems.refused_run_stands.Goals as goal

pub returns : goal.returns
returns c = refused-run-stands
