-- `folder::fold` meets its contract: the folded job is handed out only when it is done.
use Rattle.job.proofs.LengthLaws.{job_length-when-short}
use Rattle.folder.proofs.FoldingLaws.{folding-by-memory, folding-by-length, folding-by-refused, folding-by-done, room-when-done, run-when-done}
use Rattle.folder.proofs.fold.Goals as goal

pub returns-then-memory_size : goal.returns-then-memory_size
returns-then-memory_size c = search folding-by-memory

pub returns-then-job_length : goal.returns-then-job_length
returns-then-job_length c = search folding-by-length

pub folded-answer-requires : goal.folded-answer-requires
folded-answer-requires c = search job_length-when-short

pub hand_out-requires : goal.hand_out-requires
hand_out-requires c = (search run-when-done, search room-when-done)

pub returns-in-Ok : goal.returns-in-Ok
returns-in-Ok c = search folding-by-done

pub returns-in_default : goal.returns-in_default
returns-in_default c = search folding-by-refused
