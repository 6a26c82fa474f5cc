-- The theorem is proved in `QuietLaws`.
use Rattle.quiet.proofs.QuietLaws.{quiet-blit}
use Rattle.quiet.proofs.theorems.quiet_blit.Goals as goal

pub returns : goal.returns
returns c = quiet-blit
