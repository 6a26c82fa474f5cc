-- `stores::final_d` meets its contract: D's pointer, from row to row.
use Rattle.stores.proofs.StoresLaws.{pointer-d-lt, width_narrow, final_d-of-parts}
use Rattle.stores.proofs.final_d.Goals as goal

pub rows_on-requires : goal.rows_on-requires
rows_on-requires c = search (pointer-d-lt, width_narrow)

pub returns : goal.returns
returns c = search final_d-of-parts
