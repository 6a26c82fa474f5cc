-- `stores::stores` meets its contract: the stores of all rows, from the start on.
use Rattle.word.proofs.Base.{arith, rules}
use Rattle.stores.proofs.LaidLaws.{shift-a-few, shift-b-few, stores-narrow, stores-low, stores-room, stores-laid, stores-allzero}
use Rattle.stores.proofs.stores.Goals as goal

pub invariant_of-rows : goal.invariant_of-rows
invariant_of-rows c = record { few = search (shift-a-few, shift-b-few, stores-narrow) }

pub blit_stores-end-requires : goal.blit_stores-end-requires
blit_stores-end-requires c = (search stores-low, omega arith, search stores-room)

pub returns : goal.returns
returns c = (search stores-allzero, stores-laid _ _ _ _ _ _ c.setup.ensures c.start-flow.ensures c.width.ensures c.height.ensures _ _ (search rules))
