-- `output::put::put_end` meets its contract: the pointer's words, then the flag's.
use Rattle.word.proofs.Base.{rules}
use Rattle.output.proofs.PutLaws.{put-end-of-parts}
use Rattle.output.proofs.put.put_end.Goals as goal

pub returns-clause-words : goal.returns-clause-words
returns-clause-words c = search (rules, put-end-of-parts)
