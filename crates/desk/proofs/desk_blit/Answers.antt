-- `desk::desk_blit` meets its contract: it tells what the blit answers.
use Rattle.desk.proofs.PlaceLaws.{blit-of-answer}
use Rattle.desk.proofs.desk_blit.Goals as goal

pub returns : goal.returns
returns c = search blit-of-answer
