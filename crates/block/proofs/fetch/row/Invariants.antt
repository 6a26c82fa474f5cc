-- `block::fetch::row` meets its contract: each turn fetches one word more.
use Rattle.block.specs.Inner.Each.{Laid}
use Rattle.block.specs.Inner.Place.{fetched_in}
use Rattle.block.proofs.fetch.row.Given as goal

abbrev pub invariant-loop-i : goal.invariant-loop-i
invariant-loop-i l = Laid l.s l.i l.x l.initial.x (fetched_in l.direction l.ram l.start)
