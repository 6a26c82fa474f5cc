-- `word::fill::filled` meets its contract, fill by fill: the inclusive word is the exclusive one OR the word.
use Rattle.word.proofs.FillLaws.{filled-when-off, filled-when-inclusive}
use Rattle.word.proofs.Base.{rules}
use Rattle.word.proofs.fill.filled.Goals as goal

pub returns-in-Off : goal.returns-in-Off
returns-in-Off c = search filled-when-off

pub returns-in-Inclusive : goal.returns-in-Inclusive
returns-in-Inclusive c = search (rules, filled-when-inclusive)
