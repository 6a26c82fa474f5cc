-- `word::memory::copy` meets its contract: as many words as both runs have lie between what stood before and behind them.
use Rattle.word.proofs.Base.{rules}
use Rattle.word.proofs.LaidLaws.{copied, copied-nothing}
use Rattle.word.proofs.memory.copy.Goals as goal

pub returns-then-words-from : goal.returns-then-words-from
returns-then-words-from c = search copied-nothing

pub returns : goal.returns
returns c = search (rules, copied)
