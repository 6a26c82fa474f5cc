-- `desk::desk_picture` meets its contract: it tells what the picture answers.
use Rattle.desk.proofs.PlaceLaws.{picture-of-answer}
use Rattle.desk.proofs.desk_picture.Goals as goal

pub returns : goal.returns
returns c = search picture-of-answer
