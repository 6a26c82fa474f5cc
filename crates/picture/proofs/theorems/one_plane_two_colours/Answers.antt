-- The theorem is proved in `OnePlaneTwoColours`.
use Rattle.picture.proofs.OnePlaneTwoColours.{one-plane-two-colours}
use Rattle.picture.proofs.theorems.one_plane_two_colours.Goals as goal

pub returns : goal.returns
returns c = one-plane-two-colours
