-- `by_word::words` meets its contract: what is left from here gives what the whole gives.
use Rattle.word.proofs.Base.{◌≡◌, ◌+◌, ◌<◌, ◌≤◌, length}
use Rattle.area.specs.Flow.{state}
use Rattle.area.specs.Rows.{words}
use Rattle.by_word.proofs.words.Given as goal

abbrev pub invariant-loop-remaining : goal.invariant-loop-remaining
invariant-loop-remaining l = (words l.setup l.width l.remaining (state l.ram l.here) ≡ words l.setup l.width l.initial.remaining (state l.initial.ram l.initial.here))
    × (l.here.stored + l.remaining < 4294967296) × (l.remaining ≤ l.width) × (length l.ram ≡ length l.initial.ram)
