-- `word::logic::logic` meets its contract: its seven picks are the tree of `LogicLaws`.
use Rattle.word.proofs.Base.{arith}
use Rattle.word.proofs.LogicLaws.{picked, logic-is-tree}
use Rattle.word.proofs.logic.logic.Goals as goal

pub returns : goal.returns
unfolding picked
returns c = logic-is-tree c.args.function c.args.a c.args.b c.args.c (omega arith) (omega arith) (omega arith)
