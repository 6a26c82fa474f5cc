-- `stores::rows::Rows::blit_stores` meets its contract: what remains of the rows from here gives what the whole gives.
use Rattle.word.proofs.Base.{◌≡◌, ◌+◌, ◌-◌, ◌*◌, ◌<◌, ◌≤◌, []}
use Rattle.word.specs.Laid.{laid}
use Rattle.area.specs.Flow.{state}
use Rattle.area.specs.Rows.{rows}
use Rattle.stores.specs.Stores.{blit_stores}
use Rattle.stores.proofs.rows.Rows.blit_stores.Given as goal

abbrev pub invariant-loop-row : goal.invariant-loop-row
invariant-loop-row l = (laid (blit_stores l.self.setup l.self.width (l.height - l._row) (state [] l.here)) l.out.at l.out.run.now
    ≡ laid (blit_stores l.self.setup l.self.width l.height (state [] l.initial.here)) l.initial.out.at l.initial.out.run.now)
    × (rows l.self.setup l.self.width (l.height - l._row) (state [] l.here) ≡ rows l.self.setup l.self.width l.height (state [] l.initial.here))
    × (l.here.stored + (l.height - l._row) * 64 < 4294967296)
    × (l.out.at ≤ l.initial.out.at + l._row * 64)
    × (l.out.run.ghost_name ≡ l.initial.out.run.ghost_name)
