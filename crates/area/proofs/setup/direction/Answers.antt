-- `area::setup::direction` meets its contract: the test is the bit's.
use Rattle.area.proofs.SetupLaws.{direction-when-down, direction-when-up}
use Rattle.area.proofs.setup.direction.Goals as goal

pub returns-then-descending : goal.returns-then-descending
returns-then-descending c = search direction-when-down

pub returns : goal.returns
returns c = search direction-when-up
