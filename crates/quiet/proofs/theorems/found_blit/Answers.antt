-- The theorem is proved in `QuietLaws`.
use Rattle.quiet.proofs.QuietLaws.{found-blit}
use Rattle.quiet.proofs.theorems.found_blit.Goals as goal

pub returns : goal.returns
returns c = found-blit
