-- The theorem is proved in `GathersTheLongest`.
use Rattle.groups.proofs.GathersTheLongest.{gathers-the-longest}
use Rattle.groups.proofs.theorems.gathers_the_longest.Goals as goal

pub returns : goal.returns
returns c = gathers-the-longest
