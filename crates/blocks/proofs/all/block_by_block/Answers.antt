use Rattle.word.proofs.Base.{◌≤◌, arith}
use Rattle.blocks.proofs.RepeatsLaws.{arrays-of, repeating-first, repeating-on, ready_of}
use Rattle.blocks.proofs.RunningLaws.{running-starts, block-fits, running-on, running-done}
use Rattle.blocks.proofs.all.block_by_block.Goals as goal

pub loop-row-init : goal.loop-row-init
loop-row-init c = let pre = c.requires in (omega arith, running-starts pre.0 pre.1 pre.6, pre.7, repeating-first)

pub one_block-here-requires : goal.one_block-here-requires
one_block-here-requires c = let running = c.loop-row.invariant.1 in
    let few = c.min-height.ensures in
    let here = c.loop-row-test.true in (
      block-fits running (omega (arith, here, few, c.requires.2)) (omega (arith, few)) (omega (arith, few)) c.requires.3,
      omega (arith, running.room, here),
      c.loop-row.invariant.2,
      λ told. ready_of (omega (arith, few)) here c.loop-row.invariant.3 (c.repeats-ready.ensures told),
    )

pub overflow_add-row : goal.overflow_add-row
overflow_add-row c = omega (arith, c.min-height.ensures, c.loop-row.invariant.0, c.requires.5)

pub loop-row-preserved : goal.loop-row-preserved
loop-row-preserved c = let running = c.loop-row.invariant.1 in
    let here = c.loop-row-test.true in
    let few = c.min-height.ensures in
    let block = c.one_block-here.ensures in
    let some : 1 ≤ c.min-height.result = omega (arith, here, few, c.requires.2) in
    let fits = block-fits running some (omega (arith, few)) (omega (arith, few)) c.requires.3 in (
      omega (arith, few, here, c.loop-row.invariant.0),
      running-on running some (omega (arith, few)) (omega (arith, few)) c.requires.3 c.requires.4 block.0 (omega (arith, few)),
      arrays-of block.1,
      repeating-on block.1 fits.room (omega (arith, few)) (λ fewer. omega (arith, few)) here c.loop-row.invariant.3,
    )

pub returns : goal.returns
returns c = running-done (omega arith) c.loop-row.invariant.1
