-- `folder::write::put_size` meets its contract, settled or kept.
use Rattle.folder.proofs.PutLaws.{few-when-settled, put-when-settled, put-when-round, put-when-kept}
use Rattle.word.proofs.Base.{rules}
use Rattle.folder.proofs.write.put_size.Goals as goal

pub put_blit-requires : goal.put_blit-requires
put_blit-requires c = search (rules, few-when-settled)

pub returns-in-Settled-clause-put : goal.returns-in-Settled-clause-put
returns-in-Settled-clause-put c = search put-when-settled

pub returns-in-KeptForRound-clause-put : goal.returns-in-KeptForRound-clause-put
returns-in-KeptForRound-clause-put c = search put-when-round

pub returns-in-Kept-clause-put : goal.returns-in-Kept-clause-put
returns-in-Kept-clause-put c = search put-when-kept
