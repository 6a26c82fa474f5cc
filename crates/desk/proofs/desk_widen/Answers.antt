-- `desk::desk_widen` meets its contract: it tells what the widening answers.
use Rattle.desk.proofs.PlaceLaws.{widening-of-answer}
use Rattle.desk.proofs.desk_widen.Goals as goal

pub returns : goal.returns
returns c = search widening-of-answer
