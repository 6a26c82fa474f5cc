-- `blocks::all::block_by_block` meets its contract, block by block. The facts are named, for `search` reads too few.
use Rattle.word.proofs.Base.{◌-◌, ◌≤◌, length}
use Rattle.area.specs.Flow.{state}
use Rattle.area.specs.Rows.{area_blit}
use Rattle.blocks.specs.Inner.Block.{AllRest}
use Rattle.blocks.specs.Inner.Repeats.{Repeating}
use Rattle.blocks.proofs.RunningLaws.{Running}
use Rattle.blocks.proofs.all.block_by_block.Given as goal

abbrev pub invariant-loop-row : goal.invariant-loop-row
invariant-loop-row l = (l.row ≤ l.size.height)
    × Running (length l.initial.ram) l.setup l.size.width l.far l.most (l.size.height - l.row) (state l.ram l.here)
    (area_blit l.setup l.size.width l.size.height (state l.initial.ram l.initial.here))
    × AllRest l.setup l.size.width l.here.sources l.x.given
    × Repeating l.setup l.size.width l.most l.size.height l.row l.here l.x.given l.x.out

abbrev pub decreases-loop-row : goal.decreases-loop-row
decreases-loop-row l = l.size.height - l.row
