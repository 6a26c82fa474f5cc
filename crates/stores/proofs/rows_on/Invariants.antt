-- `stores::rows_on` meets its contract: what remains of the rows from here goes to the same end.
use Rattle.word.proofs.Base.{◌≡◌, ◌-◌, ◌<◌}
use Rattle.word.specs.Repeat.{repeated}
use Rattle.word.specs.Pointer.{pointer_end, next_row}
use Rattle.stores.proofs.rows_on.Given as goal

abbrev pub invariant-loop-row : goal.invariant-loop-row
invariant-loop-row l = (repeated (λ _. next_row l.direction l.width l.modulo) (l.rows - l._row) l.here ≡ repeated (λ _. next_row l.direction l.width l.modulo) l.rows l.initial.here)
    × (l.here.word < pointer_end)
