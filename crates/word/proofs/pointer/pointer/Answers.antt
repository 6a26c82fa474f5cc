-- `word::pointer::pointer` meets its contract: the same number.
use Rattle.word.specs.Pointer.{pointer}
use Rattle.word.proofs.Base.{rules}
use Rattle.word.proofs.pointer.pointer.Goals as goal

pub returns : goal.returns
unfolding pointer
returns c = search rules
