-- `stores::rows::Rows::next_word` meets its contract: its five calls are the definition's parts, and a memory of no words
-- stays so.
use Rattle.area.proofs.RowsLaws.{finished-room}
use Rattle.stores.proofs.LaidLaws.{next_word-of-parts, next_word-word}
use Rattle.stores.proofs.rows.Rows.next_word.Goals as goal

pub store_pending-stored-requires : goal.store_pending-stored-requires
store_pending-stored-requires c = search finished-room

pub returns-clause-word : goal.returns-clause-word
returns-clause-word c = search next_word-word

pub returns-clause-after : goal.returns-clause-after
returns-clause-after c = search next_word-of-parts
