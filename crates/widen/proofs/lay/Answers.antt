-- `widen::lay` meets its contract: black words, and over them the first 19 and the flag.
use Rattle.widen.proofs.WidenLaws.{laid-is-widened}
use Rattle.widen.proofs.lay.Goals as goal

pub returns : goal.returns
returns c =
    rw c.copy_from_slice.ensures.after
    (laid-is-widened c.args.old.now c.fill.new.self _ c.requires.0 c.requires.1 (c.fill.ensures.after (λ word same. same)))
