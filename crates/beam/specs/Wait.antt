-- Paper 01, "Copper": "WAIT six or to the first place after that where it is satisfied".
use Rattle.std.specs.Prelude.{ℕ, zero, suc, ◌+◌, ◌-◌, if◌then◌else◌}
use Rattle.beam.specs.Beam.{frame_end}
use Rattle.beam.specs.Satisfied.{satisfied}

-- the first of so many places, from one on, where a comparison is satisfied; where none is, the place past them
unfoldable pub first_satisfied : (first second many place : ℕ) → ℕ
first_satisfied first second zero place = place
first_satisfied first second (suc many) place =
    if satisfied first second place then place else
    first_satisfied first second many (suc place)

-- where a WAIT takes the beam: six positions on, then to the first place of the frame where it is satisfied; one that
-- is never satisfied takes it past the frame
unfoldable pub waited : (first second beam : ℕ) → ℕ
waited first second beam = first_satisfied first second (frame_end - (beam + 6)) (beam + 6)
