-- The examples are computed.
use Rattle.word.proofs.Base.{refl}
use Rattle.word.specs.Pointer.{pointer, half}
use Rattle.file.specs.Pointers.{pointer_at}
use Rattle.line.specs.Setup.{line_setup}
use Rattle.line.specs.Dot.{first_dot}
use Rattle.line.specs.Move.{vertical, right, left, sometimes, always, moved_spot}
use Rattle.line.specs.Line.{next, spots}
use Rattle.line.specs.Octants.{octants}
use Rattle.line.proofs.theorems.octants_hold.Goals as goal

pub returns : goal.returns
unfolding octants spots next moved_spot always sometimes left right vertical first_dot line_setup pointer_at pointer half
returns c = refl
