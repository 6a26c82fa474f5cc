-- `block::fetch::each_row` meets its contract, row by row.
use Rattle.word.proofs.Base.{◌*◌}
use Rattle.block.specs.Inner.Each.{Each}
use Rattle.block.specs.Inner.Place.{fetched_at}
use Rattle.block.proofs.PlaceLaws.{Walks}
use Rattle.block.proofs.fetch.each_row.Given as goal

abbrev pub invariant-loop-number : goal.invariant-loop-number
invariant-loop-number l = Walks l.course.far l.course.from l.start l.number
    × Each (l.number * l.size.width) l.x (fetched_at l.direction l.size.width l.course.far l.course.from l.ram)
