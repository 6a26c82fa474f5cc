-- `block::store::each_row` meets its contract, row by row.
use Rattle.word.proofs.Base.{◌≡◌, ◌*◌, length}
use Rattle.quiet.specs.Stream.{laid_at}
use Rattle.block.specs.Inner.Each.{at}
use Rattle.block.specs.Inner.Place.{place_at}
use Rattle.block.proofs.PlaceLaws.{Walks}
use Rattle.block.proofs.store.each_row.Given as goal

abbrev pub invariant-loop-number : goal.invariant-loop-number
invariant-loop-number l = Walks l.course.far l.course.from l.start l.number × (length l.ram ≡ length l.initial.ram)
    × (l.ram ≡ laid_at (place_at l.direction l.size.width l.course.far l.course.from) (at l.x) (l.number * l.size.width) l.initial.ram)
