-- The theorem is proved in `CutLaws`.
use Rattle.copper_facts.proofs.CutLaws.{cut-and-go-on}
use Rattle.copper_facts.proofs.cut_and_go_on.Goals as goal

pub returns : goal.returns
returns c = cut-and-go-on
