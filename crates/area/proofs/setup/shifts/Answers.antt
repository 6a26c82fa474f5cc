-- `area::setup::shifts` meets its contract, field by field.
use Rattle.word.proofs.Base.{refl}
use Rattle.area.specs.Setup.{shifts}
use Rattle.area.proofs.setup.shifts.Goals as goal

pub returns : goal.returns
unfolding shifts
returns c = rw (c.shift-b.ensures, c.shift-a.ensures) refl
