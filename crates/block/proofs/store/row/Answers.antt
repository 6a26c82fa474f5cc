use Rattle.word.proofs.Base.{arith, rules}
use Rattle.block.proofs.PlaceLaws.{place-reaches, place_inside, laid_at-none, store-turn}
use Rattle.block.proofs.store.row.Goals as goal

pub loop-i-init : goal.loop-i-init
loop-i-init c = (search rules, laid_at-none _ _ _)

pub place-requires : goal.place-requires
place-requires c = place-reaches _ _ _ _ _ c.requires.0 (search rules) (search rules)

pub offset_bounds-ram-place : goal.offset_bounds-ram-place
offset_bounds-ram-place c = omega (arith, place_inside _ _ _ _ _ _ c.requires.0 (search rules) c.place.ensures)

pub bounds-ram-place : goal.bounds-ram-place
bounds-ram-place c = omega (arith, place_inside _ _ _ _ _ _ c.requires.0 (search rules) c.place.ensures)

pub loop-i-preserved : goal.loop-i-preserved
loop-i-preserved c = (search rules, store-turn _ _ _ _ _ _ _ _ c.place.ensures c.loop-i.invariant.1)
