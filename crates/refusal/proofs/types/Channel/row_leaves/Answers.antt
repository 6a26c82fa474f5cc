-- `refusal::types::Channel::row_leaves` meets its contract: a row's two ends tell for the row.
use Rattle.refusal.proofs.RowTouchLaws.{leaves-when-ascending, leaves-when-first-above, leaves-when-first-below}
use Rattle.refusal.proofs.types.Channel.row_leaves.Goals as goal

pub returns-then-n-here : goal.returns-then-n-here
returns-then-n-here c = search leaves-when-first-above

pub returns-in-Ascending : goal.returns-in-Ascending
returns-in-Ascending c = search leaves-when-ascending

pub returns-else-n-here : goal.returns-else-n-here
returns-else-n-here c = search leaves-when-first-below
