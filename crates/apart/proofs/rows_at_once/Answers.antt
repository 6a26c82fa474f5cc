-- `apart::rows_at_once` meets its contract: each source leaves as many rows as the one before it, or fewer.
use Rattle.word.proofs.Base.{arith}
use Rattle.apart.proofs.ApartLaws.{rows-room, all_apart}
use Rattle.apart.proofs.rows_at_once.Goals as goal

pub returns-in-None : goal.returns-in-None
returns-in-None c = (omega arith, λ some. absurd (omega arith))

pub returns-in-Some : goal.returns-in-Some
returns-in-Some c = let a = c.source_rows-a.ensures in
    let b = c.source_rows-b.ensures in
    let last = c.source_rows.ensures in (
      rows-room _ _ (omega (arith, a.0, b.0, last.0)),
      all_apart c.requires (c.stored.ensures _ c.in-Some.is) a.1 b.1 last.1 b.0 last.0,
    )
