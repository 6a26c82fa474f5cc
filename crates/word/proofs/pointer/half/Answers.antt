-- `word::pointer::half` meets its contract: the same sum.
use Rattle.word.specs.Pointer.{half}
use Rattle.word.proofs.Base.{rules}
use Rattle.word.proofs.pointer.half.Goals as goal

pub returns : goal.returns
unfolding half
returns c = search rules
