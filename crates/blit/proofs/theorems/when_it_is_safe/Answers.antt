-- The theorem is proved in `WhenItIsSafe`.
use Rattle.blit.proofs.WhenItIsSafe.{when-it-is-safe}
use Rattle.blit.proofs.theorems.when_it_is_safe.Goals as goal

pub returns : goal.returns
returns c = when-it-is-safe
