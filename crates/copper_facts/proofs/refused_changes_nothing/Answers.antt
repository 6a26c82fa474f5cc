-- The theorem is proved in `CutLaws`.
use Rattle.copper_facts.proofs.CutLaws.{refused-changes-nothing}
use Rattle.copper_facts.proofs.refused_changes_nothing.Goals as goal

pub returns : goal.returns
returns c = refused-changes-nothing
