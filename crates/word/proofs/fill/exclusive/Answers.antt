-- `word::fill::exclusive` meets its contract: its four doublings are the prefix of `FillLaws`.
use Rattle.word.proofs.Base.{arith}
use Rattle.word.proofs.FillLaws.{prefix, exclusive-is-prefix}
use Rattle.word.proofs.fill.exclusive.Goals as goal

pub returns : goal.returns
unfolding prefix
returns c = exclusive-is-prefix c.args.start c.args.this (omega arith)
