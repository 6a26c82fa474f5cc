-- `area::moves::row_end` meets its contract, channel by channel.
use Rattle.word.proofs.Base.{refl}
use Rattle.area.specs.Move.{row_end}
use Rattle.area.proofs.moves.row_end.Goals as goal

pub returns : goal.returns
unfolding row_end
returns c = rw (
  c.with_pointers.ensures,
  c.turned-d.ensures,
  c.turned-c.ensures,
  c.turned-b.ensures,
  c.turned-a.ensures,
) refl
