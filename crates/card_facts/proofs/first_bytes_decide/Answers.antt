-- `card_facts::first_bytes_decide` holds its theorem: the first bytes of a text decide.
use Rattle.card_facts.proofs.FirstBytesLaws.{first-bytes-decide}
use Rattle.card_facts.proofs.first_bytes_decide.Goals as goal

pub returns : goal.returns
returns c = first-bytes-decide
