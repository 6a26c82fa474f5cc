-- `card_reading::lines::bad_from` meets its contract: the first bad line from here on is the first of all.
use Rattle.word.proofs.Base.{◌≡◌, ◌+◌, ◌-◌, ◌*◌, ◌≤◌, length}
use Rattle.card_reading.specs.Reading.{bad_from}
use Rattle.card_reading.proofs.lines.bad_from.Given as goal

abbrev pub invariant-loop-key : goal.invariant-loop-key
invariant-loop-key l = (bad_from l.text (l.start + l.key * 10) l.key (20 - l.key) ≡ bad_from l.text l.start 0 20)
    × (l.start + l.key * 10 ≤ length l.text)
