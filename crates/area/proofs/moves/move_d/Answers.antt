-- `area::moves::move_d` meets its contract: D's pointer alone has moved.
use Rattle.word.proofs.Base.{refl}
use Rattle.area.proofs.moves.move_d.Goals as goal

pub returns : goal.returns
returns c = rw (c.with_pointers.ensures, c.stepped-d.ensures) refl
