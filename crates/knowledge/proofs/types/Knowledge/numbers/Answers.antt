-- `Knowledge::numbers` meets its contract: each word is written.
use Rattle.knowledge.proofs.KnowledgeLaws.{numbers-of-places}
use Rattle.knowledge.proofs.types.Knowledge.numbers.Goals as goal

pub returns : goal.returns
returns c = search (numbers-of-places, c.loop-place.invariant.1)
