-- `blit::done::done` meets its contract: an area blit or a line, as the plan says.
use Rattle.blit.proofs.BlitLaws.{area-by-plan, line-by-plan, done-of-area, done-of-line}
use Rattle.blit.proofs.done.done.Goals as goal

pub area_done-requires : goal.area_done-requires
area_done-requires c = search area-by-plan

pub line_done-requires : goal.line_done-requires
line_done-requires c = search line-by-plan

pub returns-in-Area : goal.returns-in-Area
returns-in-Area c = search done-of-area

pub returns-in-Line : goal.returns-in-Line
returns-in-Line c = search done-of-line
