use Rattle.word.proofs.Base.{arith, rules}
use Rattle.block.proofs.EachLaws.{laid_none}
use Rattle.block.proofs.PlaceLaws.{place-reaches, place_inside, fetch-turn}
use Rattle.block.proofs.fetch.row.Goals as goal

pub loop-i-init : goal.loop-i-init
loop-i-init c = laid_none _ _ _

pub place-requires : goal.place-requires
place-requires c = place-reaches _ _ _ _ _ c.requires.0 (search rules) (search rules)

pub offset_bounds-ram-place : goal.offset_bounds-ram-place
offset_bounds-ram-place c = omega (arith, place_inside _ _ _ _ _ _ c.requires.0 (search rules) c.place.ensures)

pub bounds-ram-place : goal.bounds-ram-place
bounds-ram-place c = place_inside _ _ _ _ _ _ c.requires.0 (search rules) c.place.ensures

pub loop-i-preserved : goal.loop-i-preserved
loop-i-preserved c = fetch-turn _ _ _ _ _ _ _ _ (search rules) c.place.ensures c.loop-i.invariant
