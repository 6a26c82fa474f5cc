-- `depends::depends::depends` meets its contract: the entry tells the sources by their weights.
use Rattle.depends.proofs.DependsLaws.{told-of-entry}
use Rattle.depends.proofs.depends.depends.Goals as goal

pub returns : goal.returns
returns c = search told-of-entry
