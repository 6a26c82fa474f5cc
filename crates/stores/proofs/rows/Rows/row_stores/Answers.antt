use Rattle.word.proofs.Base.{rules}
use Rattle.stores.proofs.LaidLaws.{row-turn, row-end, repeated-on, repeated-over, words-room-on}
use Rattle.stores.proofs.rows.Rows.row_stores.Goals as goal

pub loop-i-preserved : goal.loop-i-preserved
loop-i-preserved c = let word = c.one_store-here.ensures in
    let more = c.loop-i-test.true in
    let inv = c.loop-i.invariant in (
      row-turn _ _ _ _ _ _ _ _ _ _ more word.stores word.place word.after inv.0,
      repeated-on _ _ _ _ _ _ more word.after inv.1,
      words-room-on _ _ _ _ _ more word.after inv.2,
      search rules,
      search rules,
    )

pub returns-clause-stores : goal.returns-clause-stores
returns-clause-stores c = search (rules, row-end)

pub returns-clause-after : goal.returns-clause-after
returns-clause-after c = search (rules, repeated-over)
