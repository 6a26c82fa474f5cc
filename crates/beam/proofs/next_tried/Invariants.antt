-- `beam::next_tried` meets its contract: no place is passed where the comparison is satisfied.
use Rattle.word.proofs.Base.{◌≡◌, ◌+◌, ◌-◌}
use Rattle.beam.specs.Beam.{frame_end}
use Rattle.beam.specs.Wait.{first_satisfied}
use Rattle.beam.proofs.next_tried.Given as goal

abbrev pub invariant-loop-position : goal.invariant-loop-position
invariant-loop-position l = first_satisfied l.first l.second (frame_end - (l.start + l.position)) (l.start + l.position) ≡ first_satisfied l.first l.second (frame_end - l.place) l.place
