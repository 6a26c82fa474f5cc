-- `area::store::wait` meets its contract: another pending word, all else as it was.
use Rattle.word.proofs.Base.{refl}
use Rattle.area.specs.Store.{wait}
use Rattle.area.proofs.StoreLaws.{then_some-waits}
use Rattle.area.proofs.store.wait.Goals as goal

pub returns : goal.returns
unfolding wait
returns c = rw (c.with_stores.ensures, c.then_some-pending.ensures, then_some-waits c.args.used c.args.flow.pointers.d.word c.args.word) refl
