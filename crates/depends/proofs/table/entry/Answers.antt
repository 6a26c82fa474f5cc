-- `depends::table::entry` meets its contract: antt computes the rule at all 256 functions, and finds the table's entries.
use Rattle.word.proofs.Base.{◌%◌, arith}
use Rattle.depends.specs.Depends.{changes, counts, entry}
use Rattle.depends.proofs.TableLaws.{values-at}
use Rattle.depends.proofs.table.entry.Goals as goal

-- the one test over the table: it is the list of the rule's values
pub returns : goal.returns
unfolding entry counts changes
returns c = values-at entry 256 (c.args.function % 256) (omega arith)
