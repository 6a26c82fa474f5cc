-- `picture::refuse::all_inside` meets its contract: it is told so far whether every plane lies in memory.
use Rattle.word.proofs.Base.{◌≡◌}
use Rattle.word.specs.Choice.{every}
use Rattle.picture.specs.Refusal.{inside}
use Rattle.picture.proofs.refuse.all_inside.Given as goal

abbrev pub invariant-loop-start : goal.invariant-loop-start
invariant-loop-start l = l.fine ≡ every (inside l.n l.words l.planes) l.start-index
