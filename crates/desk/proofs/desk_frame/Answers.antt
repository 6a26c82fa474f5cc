-- `desk::desk_frame` meets its contract: it tells what the frame answers.
use Rattle.desk.proofs.PlaceLaws.{frame-of-answer}
use Rattle.desk.proofs.desk_frame.Goals as goal

pub returns : goal.returns
returns c = search frame-of-answer
