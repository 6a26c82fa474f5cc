-- The theorem is proved in `SettledKnownLaws`.
use Rattle.demands.proofs.SettledKnownLaws.{a-line-is-never-settled}
use Rattle.demands.proofs.a_line_is_never_settled.Goals as goal

pub returns : goal.returns
returns c = a-line-is-never-settled
