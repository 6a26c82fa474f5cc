-- `area::store::counted` meets its contract, whether a word waits or not.
use Rattle.word.proofs.Base.{refl}
use Rattle.area.specs.Store.{count_with}
use Rattle.area.proofs.store.counted.Goals as goal

pub returns-in-Some : goal.returns-in-Some
unfolding count_with
returns-in-Some c = rw c.in-Some.is refl

pub returns-in-None : goal.returns-in-None
unfolding count_with
returns-in-None c = rw c.in-None.is refl
