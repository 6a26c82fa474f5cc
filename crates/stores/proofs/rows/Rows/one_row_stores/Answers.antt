-- `stores::rows::Rows::one_row_stores` meets its contract: the row's start, its words, its end.
use Rattle.stores.proofs.LaidLaws.{row-of-started, one_row-of-started}
use Rattle.stores.proofs.rows.Rows.one_row_stores.Goals as goal

pub returns-clause-stores : goal.returns-clause-stores
returns-clause-stores c = row-of-started _ _ _ _ _ _ _ c.row_start-started.ensures c.row_stores-end.ensures.stores

pub returns-clause-after : goal.returns-clause-after
returns-clause-after c = one_row-of-started _ _ _ _ _ _ c.row_start-started.ensures c.row_stores-end.ensures.after c.row_end.ensures
