-- `folder::write::put_step` meets its contract, by the kind of the step.
use Rattle.folder.proofs.PutLaws.{put-of-register, put-of-size, put-of-store, put-of-flag}
use Rattle.folder.proofs.write.put_step.Goals as goal

pub returns-in-Register-clause-put : goal.returns-in-Register-clause-put
returns-in-Register-clause-put c = search put-of-register

pub returns-in-Size-clause-put : goal.returns-in-Size-clause-put
returns-in-Size-clause-put c = search put-of-size

pub returns-in-Store-clause-put : goal.returns-in-Store-clause-put
returns-in-Store-clause-put c = search put-of-store

pub returns-in-Flag-clause-put : goal.returns-in-Flag-clause-put
returns-in-Flag-clause-put c = search put-of-flag
