-- `file::put_pointer` meets its contract: the two halves, one after the other.
use Rattle.file.proofs.PointersLaws.{with_pointer-of-halves}
use Rattle.file.proofs.put_pointer.Goals as goal

pub returns : goal.returns
returns c = search with_pointer-of-halves
