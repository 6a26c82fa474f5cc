-- `block::place::together` meets its contract, upward and downward.
use Rattle.word.proofs.Base.{◌+◌, eqb, eqb-true, leb-true}
use Rattle.word.specs.Pointer.{pointer_end}
use Rattle.word.proofs.ChoiceLaws.{and_left, and_right}
use Rattle.block.specs.Inner.Place.{Gapless}
use Rattle.block.proofs.place.together.Goals as goal

pub returns-in-Ascending : goal.returns-in-Ascending
unfolding Gapless
returns-in-Ascending c = let asked = c.args in
    λ told. rw c.in-Ascending.is (eqb-true _ _ (and_left _ _ told), leb-true _ _ (and_right (eqb asked.course.far asked.size.width) _ told))

pub returns-in-Descending : goal.returns-in-Descending
unfolding Gapless
returns-in-Descending c = let asked = c.args in
    λ told. rw c.in-Descending.is (eqb-true _ _ (and_left _ _ told), leb-true _ _ (and_right (eqb (asked.course.far + asked.size.width) pointer_end) _ told))
