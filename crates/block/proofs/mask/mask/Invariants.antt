-- `block::mask::mask` meets its contract: masks of all ones leave every word, and others change two of a row.
use Rattle.word.proofs.Base.{◌≡◌, ◌*◌, length}
use Rattle.quiet.specs.Words.{masked_at}
use Rattle.block.specs.Inner.Each.{at, Each, Kept}
use Rattle.block.proofs.mask.mask.Given as goal

abbrev pub invariant-loop-row : goal.invariant-loop-row
invariant-loop-row l = (length l.x ≡ 80) × Kept (l.row * l.size.width) l.x l.initial.x × Each (l.row * l.size.width) l.x (masked_at l.masks l.size.width (at l.initial.x))
