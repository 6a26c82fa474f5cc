-- `word::size::height` meets its contract: zero means the most, any other field itself.
use Rattle.word.proofs.Base.{rules}
use Rattle.word.specs.Size.{height}
use Rattle.word.proofs.size.height.Goals as goal

pub returns : goal.returns
unfolding height
returns c = search rules
