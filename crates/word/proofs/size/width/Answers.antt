-- `word::size::width` meets its contract: zero means the most, any other field itself.
use Rattle.word.proofs.Base.{rules}
use Rattle.word.specs.Size.{width}
use Rattle.word.proofs.size.width.Goals as goal

pub returns : goal.returns
unfolding width
returns c = search rules
