-- `area::store::store_pending` meets its contract: memory and count with the pending word, and nothing waits.
use Rattle.area.proofs.StoreLaws.{store_pending-of-parts}
use Rattle.area.proofs.store.store_pending.Goals as goal

pub returns : goal.returns
returns c = search store_pending-of-parts
