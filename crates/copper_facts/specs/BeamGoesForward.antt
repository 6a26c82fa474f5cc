-- Paper 01, "Copper": "MOVE and SKIP take it four positions on, WAIT six or to the first place after that where it is
-- satisfied". The beam only goes forward: an instruction that is done takes it four places on at least, a WAIT six. The
-- places that a WAIT tries lie from six places past its start to where it ends, so that no two WAITs of a frame try the
-- same place.
use Rattle.std.specs.Prelude.{ℕ, ◌+◌, ◌≤◌, ◌≡◌}
use Rattle.beam.specs.Wait.{waited}
use Rattle.instruction.specs.Effect.{Moment, effect}

pub record GoesForward : Type 0 where
  pub instruction : (here : Moment) → (effect here).number ≡ 0 → here.beam + 4 ≤ (effect here).moment.beam
  pub wait : (first second beam : ℕ) → beam + 6 ≤ waited first second beam

abbrev pub BeamGoesForward : Type 0
BeamGoesForward = GoesForward
