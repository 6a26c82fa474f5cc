-- `refusal::types::Channel::rows_leave` meets its contract: the rows passed stay inside, and the first that leaves decides.
use Rattle.word.proofs.Base.{◌≡◌, ◌-◌, ◌<◌}
use Rattle.word.specs.Pointer.{pointer_end}
use Rattle.refusal.specs.Touch.{touches, leaves}
use Rattle.refusal.proofs.types.Channel.rows_leave.Given as goal

abbrev pub invariant-loop-row : goal.invariant-loop-row
invariant-loop-row l = (leaves l.n (touches l.self.direction l.self.width l.self.modulo (l.self.rows - l.row) l.here) ≡ leaves l.n (touches l.self.direction l.self.width l.self.modulo l.self.rows l.self.pointer))
    × (l.here.word < pointer_end)
