-- `file::keeps` meets its contract: it is told so far whether every place keeps its bits.
use Rattle.word.proofs.Base.{◌≡◌}
use Rattle.word.specs.Choice.{every}
use Rattle.file.specs.File.{kept_at}
use Rattle.file.proofs.keeps.Given as goal

abbrev pub invariant-loop-at : goal.invariant-loop-at
invariant-loop-at l = l.fine ≡ every (kept_at l.file) l.at
