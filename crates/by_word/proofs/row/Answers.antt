-- `by_word::row` meets its contract: the row's start, its words and its end.
use Rattle.word.proofs.Base.{rules}
use Rattle.area.proofs.RowsLaws.{row_start-room, one_row-of-parts}
use Rattle.by_word.proofs.row.Goals as goal

pub words-end-requires : goal.words-end-requires
words-end-requires c = search (rules, row_start-room)

pub returns : goal.returns
returns c = search one_row-of-parts
