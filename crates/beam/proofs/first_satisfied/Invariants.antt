-- `beam::first_satisfied` meets its contract: from here on the first place is the one from the start on.
use Rattle.word.proofs.Base.{◌≡◌, ◌-◌}
use Rattle.beam.specs.Beam.{frame_end}
use Rattle.beam.specs.Wait.{first_satisfied}
use Rattle.beam.proofs.first_satisfied.Given as goal

abbrev pub invariant-loop-place : goal.invariant-loop-place
invariant-loop-place l = first_satisfied l.first l.second (frame_end - l.place) l.place ≡ first_satisfied l.first l.second (frame_end - l.from) l.from

abbrev pub decreases-loop-place : goal.decreases-loop-place
decreases-loop-place l = frame_end - l.place
