-- The theorem is proved in `DemandThreeLaws`.
use Rattle.demands.proofs.DemandThreeLaws.{demand-three}
use Rattle.demands.proofs.demand_three.Goals as goal

pub returns : goal.returns
returns c = demand-three
