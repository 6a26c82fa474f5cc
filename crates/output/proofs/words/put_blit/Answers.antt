-- `output::words::put_blit` meets its contract: the run holds the blit's stores.
use Rattle.word.proofs.Base.{rules}
use Rattle.output.proofs.StoresLaws.{stores-of-run}
use Rattle.output.proofs.words.put_blit.Goals as goal

pub returns-clause-words : goal.returns-clause-words
returns-clause-words c = search (rules, stores-of-run)
