-- `block::place::place` meets its contract, by the direction.
use Rattle.word.proofs.Base.{rules}
use Rattle.block.specs.Inner.Place.{place_in}
use Rattle.block.proofs.place.place.Goals as goal

pub overflow_add-result : goal.overflow_add-result
unfolding place_in
overflow_add-result c = let room = rw c.in-Ascending.is at c.requires in search rules

pub overflow_sub-result : goal.overflow_sub-result
unfolding place_in
overflow_sub-result c = let room = rw c.in-Descending.is at c.requires in search rules

pub returns-in-Ascending : goal.returns-in-Ascending
unfolding place_in
returns-in-Ascending c = rw c.in-Ascending.is

pub returns-in-Descending : goal.returns-in-Descending
unfolding place_in
returns-in-Descending c = rw c.in-Descending.is
