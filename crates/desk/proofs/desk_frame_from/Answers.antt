-- `desk::desk_frame_from` meets its contract: it tells what the frame answers, and the beam's place.
use Rattle.desk.proofs.PlaceLaws.{frame_from-of-answer}
use Rattle.desk.proofs.desk_frame_from.Goals as goal

pub returns : goal.returns
returns c = search frame_from-of-answer
