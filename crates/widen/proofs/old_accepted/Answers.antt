-- `widen::old_accepted` meets its contract: the length, then the first 19 words and the flag.
use Rattle.widen.proofs.OldLaws.{old_accepted-of-length, old_accepted-of-kept}
use Rattle.widen.proofs.old_accepted.Goals as goal

pub returns-then-old-ne20 : goal.returns-then-old-ne20
returns-then-old-ne20 c = search old_accepted-of-length

pub returns : goal.returns
returns c = search old_accepted-of-kept
