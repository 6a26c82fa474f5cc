-- `word::even::stride` meets its contract: the next row of one that starts at the start of memory.
use Rattle.word.proofs.Base.{ap}
use Rattle.word.specs.declared.types.Pointer.{Pointer}
use Rattle.word.proofs.even.stride.Goals as goal

pub returns : goal.returns
returns c = (ap (λ (pointer : Pointer). pointer.word) c.next_row-next.ensures.0, c.next_row-next.ensures.1)
