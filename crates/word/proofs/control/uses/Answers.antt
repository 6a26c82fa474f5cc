-- `word::control::uses` meets its contract: field by field.
use Rattle.word.proofs.Base.{rules}
use Rattle.word.specs.Control.{uses}
use Rattle.word.proofs.control.uses.Goals as goal

pub returns : goal.returns
unfolding uses
returns c = search rules
