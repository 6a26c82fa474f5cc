-- `widen::widen` meets its contract: the old file, then the target's length, each refused before anything is written.
use Rattle.widen.proofs.OldLaws.{old_accepted-length-told}
use Rattle.widen.proofs.WidenLaws.{widening-of-old-file, widening-of-target-length, widening-when-done}
use Rattle.widen.proofs.widen.Goals as goal

pub returns-then-not-old_accepted : goal.returns-then-not-old_accepted
returns-then-not-old_accepted c = search widening-of-old-file

pub returns-then-target-ne-WORDS : goal.returns-then-target-ne-WORDS
returns-then-target-ne-WORDS c = search widening-of-target-length

pub lay-requires : goal.lay-requires
lay-requires c = search old_accepted-length-told

pub returns : goal.returns
returns c = search widening-when-done
