-- `area::store::put` meets its contract, whether a word waits or not.
use Rattle.word.proofs.Base.{refl}
use Rattle.area.specs.Store.{memory_with}
use Rattle.area.proofs.store.put.Goals as goal

pub returns-in-Some : goal.returns-in-Some
unfolding memory_with
returns-in-Some c = rw c.in-Some.is c.write.ensures

pub returns-in_default : goal.returns-in_default
unfolding memory_with
returns-in_default c = rw c.in_default.is refl
