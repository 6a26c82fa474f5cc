-- `by_word::area_blit` meets its contract: all rows, then the store of the last word.
use Rattle.area.proofs.RowsLaws.{rows-leave-room, area_blit-of-parts}
use Rattle.by_word.proofs.area_blit.Goals as goal

pub store_pending-requires : goal.store_pending-requires
store_pending-requires c = search rows-leave-room

pub returns : goal.returns
returns c = search area_blit-of-parts
