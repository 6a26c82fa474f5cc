-- `by_word::rows` meets its contract: what is left from here gives what the whole gives.
use Rattle.word.proofs.Base.{◌≡◌, ◌+◌, ◌*◌, ◌<◌, length}
use Rattle.area.specs.Flow.{state}
use Rattle.area.specs.Rows.{rows}
use Rattle.by_word.proofs.rows.Given as goal

abbrev pub invariant-loop-remaining : goal.invariant-loop-remaining
invariant-loop-remaining l = (rows l.setup l.width l._remaining (state l.ram l.here) ≡ rows l.setup l.width l.height (state l.initial.ram l.initial.here))
    × (l.here.stored + l._remaining * 64 < 4294967296) × (length l.ram ≡ length l.initial.ram)
