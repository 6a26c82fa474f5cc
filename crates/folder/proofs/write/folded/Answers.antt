use Rattle.word.proofs.Base.{arith, rules}
use Rattle.job.proofs.StepLaws.{read-falls, read-moves, read-inside}
use Rattle.folder.proofs.FoldedLaws.{stands-start, stands-turn, room-to-put, raw-few, folded-of-end, folded-of-fault}
use Rattle.folder.proofs.write.folded.Goals as goal

pub loop-step-init : goal.loop-step-init
loop-step-init c = (search stands-start, search rules)

pub slice_bounds-put_step-count : goal.slice_bounds-put_step-count
slice_bounds-put_step-count c = search (read-moves, arith)

pub slice_bounds-put_step-start : goal.slice_bounds-put_step-start
slice_bounds-put_step-start c = search (read-moves, arith)

pub slice_bounds-put_step-end : goal.slice_bounds-put_step-end
slice_bounds-put_step-end c = search read-inside

pub put_step-round-requires : goal.put_step-round-requires
put_step-round-requires c = (search room-to-put, search raw-few)

pub loop-step-smaller : goal.loop-step-smaller
loop-step-smaller c = search (rules, read-falls)

pub loop-step-preserved : goal.loop-step-preserved
loop-step-preserved c = (search (stands-turn, c.put_step-round.ensures.put, c.loop-step.invariant.0), search rules)

pub returns-in-Ok-None : goal.returns-in-Ok-None
returns-in-Ok-None c =
    let found = c.in-Ok-None in
    folded-of-end _ _ _ _ _ _ _ _ _ c.loop-step.invariant.0 _ c.read_at.ensures _ _ _ found.is found.field-0-is
    c.ended.ensures (search (rules, c.loop-step.invariant.1))

pub returns-in-Err : goal.returns-in-Err
returns-in-Err c =
    folded-of-fault _ _ _ _ _ _ _ _ _ c.loop-step.invariant.0 _ c.read_at.ensures _ _ c.in-Err.is
    (search (rules, c.loop-step.invariant.1))
