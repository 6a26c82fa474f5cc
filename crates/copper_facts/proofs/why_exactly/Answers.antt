-- The theorem is proved in `WhyLaws`.
use Rattle.copper_facts.proofs.WhyLaws.{why-exactly}
use Rattle.copper_facts.proofs.why_exactly.Goals as goal

pub returns : goal.returns
returns c = why-exactly
