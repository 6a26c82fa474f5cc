use Rattle.word.proofs.Base.{rules}
use Rattle.word.proofs.LaidLaws.{laid-turn, laid-end}
use Rattle.word.proofs.laying.Laying.put_all.Goals as goal

pub loop-word-preserved : goal.loop-word-preserved
loop-word-preserved g c = (search (rules, laid-turn), search rules, search rules)

pub returns-clause-words : goal.returns-clause-words
returns-clause-words g c = search (rules, laid-end)
