-- `round::course::dots_round` meets its contract: the dots from one on tell what all tell.
use Rattle.word.proofs.Base.{◌≡◌, ◌+◌, ◌-◌, ◌<◌}
use Rattle.line.specs.Inner.Walk.{pixel_end, dot_of}
use Rattle.round.specs.Between.{went_round}
use Rattle.round.specs.Line.{line_moves}
use Rattle.round.proofs.course.dots_round.Given as goal

abbrev pub invariant-loop-dot : goal.invariant-loop-dot
invariant-loop-dot l = (went_round (line_moves l.line (l.dots + 1 - l.dot) (dot_of l.mark)) ≡ went_round (line_moves l.line l.dots (dot_of l.initial.mark)))
    × (l.mark.pixel < pixel_end)
