-- `area::finish::masked_a` meets its contract: it is the mask's.
use Rattle.area.specs.Finish.{masked_a}
use Rattle.word.proofs.Base.{rules}
use Rattle.area.proofs.finish.masked_a.Goals as goal

pub returns : goal.returns
unfolding masked_a
returns c = search rules
