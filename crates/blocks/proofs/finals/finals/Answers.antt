-- `blocks::finals::finals` meets its contract: shifted where the function needs it, mixed, then filled.
use Rattle.word.proofs.Base.{arith, rules}
use Rattle.block.proofs.MixLaws.{ignores-of}
use Rattle.blocks.proofs.FinalsLaws.{finals-are}
use Rattle.blocks.proofs.finals.finals.Goals as goal

pub mix-requires : goal.mix-requires
mix-requires c = (rw c.requires.0 (ignores-of _), search rules)

pub returns-then-setup-eq0 : goal.returns-then-setup-eq0
returns-then-setup-eq0 c = finals-are _ _ _ _ _ _ _ _ _ _ (omega arith) c.requires.0 (λ _. c.unmoved.ensures _) c.shift.ensures c.mix.ensures _ _ c.requires.4 c.fill.ensures.0 c.fill.ensures.1

pub mix-requires-2 : goal.mix-requires-2
mix-requires-2 c = (rw c.requires.0 (ignores-of _), search rules)

pub returns : goal.returns
returns c = finals-are _ _ _ _ _ _ _ _ _ _ (omega arith) c.requires.0 c.shift-2.ensures c.shift.ensures c.mix-2.ensures _ _ c.requires.4 c.fill-2.ensures.0 c.fill-2.ensures.1
