use Rattle.word.proofs.Base.{rules}
use Rattle.stores.proofs.LaidLaws.{blit-turn, blit-end, repeated-on, repeated-over, rows-room-on}
use Rattle.stores.proofs.rows.Rows.blit_stores.Goals as goal

pub loop-row-preserved : goal.loop-row-preserved
loop-row-preserved c = let row = c.one_row_stores-here.ensures in
    let more = c.loop-row-test.true in
    let inv = c.loop-row.invariant in (
      blit-turn _ _ _ _ _ _ _ _ _ _ _ more row.stores row.place row.after inv.0,
      repeated-on _ _ _ _ _ _ more row.after inv.1,
      rows-room-on _ _ _ _ _ _ more (search rules) row.after inv.2,
      search rules,
      search rules,
    )

pub returns-clause-stores : goal.returns-clause-stores
returns-clause-stores c = search (rules, blit-end)

pub returns-clause-after : goal.returns-clause-after
returns-clause-after c = search (rules, repeated-over)
