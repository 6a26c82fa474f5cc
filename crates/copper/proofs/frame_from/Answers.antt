-- `copper::frame_from` meets its contract: 1, then 2, then the instructions.
use Rattle.word.proofs.MemoryLaws.{memory_size-when-taken}
use Rattle.copper.proofs.FrameLaws.{frame_from-by-memory, frame_from-by-file, frame_from-onward}
use Rattle.copper.proofs.frame_from.Goals as goal

pub returns-then-memory_size : goal.returns-then-memory_size
returns-then-memory_size c = search frame_from-by-memory

pub returns-then-not-accepted : goal.returns-then-not-accepted
returns-then-not-accepted c = search frame_from-by-file

pub onward-requires : goal.onward-requires
onward-requires c = search memory_size-when-taken

pub returns : goal.returns
returns c = search frame_from-onward
