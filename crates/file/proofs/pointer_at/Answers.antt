-- `file::pointer_at` meets its contract: the two halves, made one.
use Rattle.word.proofs.Base.{refl}
use Rattle.file.specs.Pointers.{pointer_at}
use Rattle.file.proofs.pointer_at.Goals as goal

pub returns : goal.returns
unfolding pointer_at
returns c = rw (c.pointer.ensures, c.read-low.ensures, c.read-high.ensures) refl
