-- `groups::put_group` meets its contract: several values are laid as a group, and a lone one as a store.
use Rattle.word.proofs.Base.{rules}
use Rattle.groups.proofs.StoresLaws.{put-group-lone, put-group-several, put-group-end-lone, put-group-end-several}
use Rattle.groups.proofs.put_group.Goals as goal

pub returns-then-count-gt1-clause-words : goal.returns-then-count-gt1-clause-words
returns-then-count-gt1-clause-words c = search (rules, put-group-several)

pub returns-then-count-gt1-clause-place : goal.returns-then-count-gt1-clause-place
returns-then-count-gt1-clause-place c = search (rules, put-group-end-several)

pub returns-clause-words : goal.returns-clause-words
returns-clause-words c = search (rules, put-group-lone)

pub returns-clause-place : goal.returns-clause-place
returns-clause-place c = search (rules, put-group-end-lone)
