-- `blocks::one::counted` meets its contract: each word is counted if D is used.
use Rattle.word.proofs.Base.{arith}
use Rattle.blocks.proofs.one.counted.Goals as goal

pub returns-then-used : goal.returns-then-used
returns-then-used c = rw c.if-used.true

pub returns : goal.returns
returns c = rw c.if-used.false (omega arith)
