-- `blit::done::finished` meets its contract: all rows by the plan. The facts are named, for `search` reads too few of them.
use Rattle.blit.proofs.BlitLaws.{plan-shifts-a, plan-shifts-b, start-a, start-b, start-c, start-d, start-nothing, start-room, finished-of-parts}
use Rattle.refusal.proofs.RefusalLaws.{plan-some-words, plan-few-words, plan-some-rows, plan-few-rows}
use Rattle.blit.proofs.done.finished.Goals as goal

pub area_blit-requires : goal.area_blit-requires
area_blit-requires c = let same = c.requires in
    let starts = c.start_from-flow.ensures in (
      plan-shifts-a _ _ _ same,
      plan-shifts-b _ _ _ same,
      plan-some-words _ _ _ same,
      plan-few-words _ _ _ same,
      plan-some-rows _ _ _ same,
      plan-few-rows _ _ _ same,
      start-a _ _ _ _ same starts,
      start-b _ _ _ _ same starts,
      start-c _ _ _ _ same starts,
      start-d _ _ _ _ same starts,
      start-nothing _ _ _ _ same starts,
      start-room _ _ _ _ same starts,
    )

pub returns : goal.returns
returns c = finished-of-parts _ _ _ _ _ _ _
    c.requires
    c.start_from-flow.ensures
    c.area_blit.ensures
