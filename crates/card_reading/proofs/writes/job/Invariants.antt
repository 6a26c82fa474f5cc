-- `card_reading::writes::job` meets its contract: the writes from here on give what all give.
use Rattle.word.proofs.Base.{◌≡◌, ◌*◌, drop}
use Rattle.word.specs.Laid.{laid}
use Rattle.card_reading.specs.Job.{write_order, writes}
use Rattle.card_reading.proofs.writes.job.Given as goal

abbrev pub invariant-loop-step : goal.invariant-loop-step
invariant-loop-step l = (laid (writes l.text l.start (drop l.step write_order)) l.words.at l.words.run.now ≡ laid (writes l.text l.start write_order) 0 l.initial.words.run.now)
    × (l.words.at ≡ l.step * 2)
    × (l.words.run.ghost_name ≡ l.initial.words.run.ghost_name)
