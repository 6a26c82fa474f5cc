-- `block::store::row` meets its contract: each turn stores one word more.
use Rattle.word.proofs.Base.{◌≡◌, length}
use Rattle.quiet.specs.Stream.{laid_at}
use Rattle.block.specs.Inner.Each.{from_at}
use Rattle.block.specs.Inner.Place.{place_in}
use Rattle.block.proofs.store.row.Given as goal

abbrev pub invariant-loop-i : goal.invariant-loop-i
invariant-loop-i l = (length l.ram ≡ length l.initial.ram) × (l.ram ≡ laid_at (place_in l.direction l.start) (from_at l.s l.x) l.i l.initial.ram)
