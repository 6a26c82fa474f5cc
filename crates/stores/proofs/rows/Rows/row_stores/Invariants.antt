-- `stores::rows::Rows::row_stores` meets its contract: what remains of the row from here gives what the whole gives.
use Rattle.word.proofs.Base.{◌≡◌, ◌+◌, ◌-◌, ◌<◌, []}
use Rattle.word.specs.Laid.{laid}
use Rattle.area.specs.Flow.{state}
use Rattle.area.specs.Rows.{words}
use Rattle.stores.specs.Stores.{row_stores}
use Rattle.stores.proofs.rows.Rows.row_stores.Given as goal

abbrev pub invariant-loop-i : goal.invariant-loop-i
invariant-loop-i l = (laid (row_stores l.self.setup l.self.width (l.self.width - l.i) (state [] l.here)) l.out.at l.out.run.now
    ≡ laid (row_stores l.self.setup l.self.width l.self.width (state [] l.initial.here)) l.initial.out.at l.initial.out.run.now)
    × (words l.self.setup l.self.width (l.self.width - l.i) (state [] l.here) ≡ words l.self.setup l.self.width l.self.width (state [] l.initial.here))
    × (l.here.stored + (l.self.width - l.i) < 4294967296)
    × (l.out.at ≡ l.initial.out.at + l.i)
    × (l.out.run.ghost_name ≡ l.initial.out.run.ghost_name)
