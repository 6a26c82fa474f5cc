-- The theorem is proved in `ScreenLaws`.
use Rattle.demands.proofs.ScreenLaws.{screen-touches-neither}
use Rattle.demands.proofs.screen_touches_neither.Goals as goal

pub returns : goal.returns
returns c = screen-touches-neither
