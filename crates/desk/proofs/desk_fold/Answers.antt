-- `desk::desk_fold` meets its contract: it tells what the folding answers; its place and length are small.
use Rattle.desk.proofs.PlaceLaws.{folding-place-lt, folding-long-lt, folding-of-answer}
use Rattle.desk.proofs.desk_fold.Goals as goal

pub overflow_cast-place : goal.overflow_cast-place
overflow_cast-place c = search folding-place-lt

pub overflow_cast-long : goal.overflow_cast-long
overflow_cast-long c = search folding-long-lt

pub returns : goal.returns
returns c = search folding-of-answer
