-- `area::setup::fill` meets its contract: the tests are the bits', in the definition's order.
use Rattle.area.proofs.SetupLaws.{fill-when-exclusive, fill-when-inclusive, fill-when-off}
use Rattle.area.proofs.setup.fill.Goals as goal

pub returns-then-exclusive_fill : goal.returns-then-exclusive_fill
returns-then-exclusive_fill c = search fill-when-exclusive

pub returns-then-inclusive_fill : goal.returns-then-inclusive_fill
returns-then-inclusive_fill c = search fill-when-inclusive

pub returns : goal.returns
returns c = search fill-when-off
