-- `settled::settle::goes_round` meets its contract: the plan is an area's or a line's, as the file's line bit says.
use Rattle.round.proofs.RoundLaws.{planned-area-in-range, goes_round-of-area, planned-line-in-range, goes_round-of-line}
use Rattle.settled.proofs.settle.goes_round.Goals as goal

pub area_by_rows-requires : goal.area_by_rows-requires
area_by_rows-requires c = search planned-area-in-range

pub line_round-requires : goal.line_round-requires
line_round-requires c = search planned-line-in-range

pub returns-in-Area : goal.returns-in-Area
returns-in-Area c = search goes_round-of-area

pub returns-in-Line : goal.returns-in-Line
returns-in-Line c = search goes_round-of-line
