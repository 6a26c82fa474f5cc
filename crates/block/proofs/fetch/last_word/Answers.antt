-- `block::fetch::last_word` meets its contract: the last word of the last row.
use Rattle.word.proofs.Base.{arith, rules}
use Rattle.block.proofs.PlaceLaws.{last-far, last-row-inside, last-fetched, place-reaches, place_inside}
use Rattle.block.proofs.fetch.last_word.Goals as goal

pub overflow_mul-start : goal.overflow_mul-start
overflow_mul-start c = omega (arith, last-far c.requires.0 c.requires.1)

pub overflow_add-start : goal.overflow_add-start
overflow_add-start c = omega (arith, last-far c.requires.0 c.requires.1, c.requires.0.starts)

pub overflow_sub-size : goal.overflow_sub-size
overflow_sub-size c = c.requires.0.some

pub place-requires : goal.place-requires
place-requires c = place-reaches _ _ _ _ _ (last-row-inside c.requires.0 c.requires.1) (omega (arith, c.requires.0.some)) (search rules)

pub offset_bounds-ram-place : goal.offset_bounds-ram-place
offset_bounds-ram-place c = omega (arith, place_inside _ _ _ _ _ _ (last-row-inside c.requires.0 c.requires.1) (omega (arith, c.requires.0.some)) c.place.ensures)

pub bounds-ram-place : goal.bounds-ram-place
bounds-ram-place c = place_inside _ _ _ _ _ _ (last-row-inside c.requires.0 c.requires.1) (omega (arith, c.requires.0.some)) c.place.ensures

pub returns : goal.returns
returns c = last-fetched c.requires.0 c.requires.1 _ _ c.place.ensures
