-- `by_word::one_word` meets its contract: its five calls are the definition's parts; the sources' pointers move as they are fetched.
use Rattle.area.proofs.RowsLaws.{finished-room, one_word-of-parts}
use Rattle.by_word.proofs.one_word.Goals as goal

pub store_pending-stored-requires : goal.store_pending-stored-requires
store_pending-stored-requires c = search finished-room

pub returns : goal.returns
returns c = search one_word-of-parts
