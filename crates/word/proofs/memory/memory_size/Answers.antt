-- `word::memory::memory_size` meets its contract: the far end tested the other way round.
use Rattle.word.proofs.MemoryLaws.{memory_size-is-beyond}
use Rattle.word.proofs.memory.memory_size.Goals as goal

pub returns : goal.returns
returns c = search memory_size-is-beyond
