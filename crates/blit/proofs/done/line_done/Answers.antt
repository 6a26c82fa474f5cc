-- `blit::done::line_done` meets its contract: what all dots leave is written back.
use Rattle.refusal.proofs.RefusalLaws.{first-lt, first-shift-lt, first-bit-lt}
use Rattle.round.proofs.RangeLaws.{line-in-range}
use Rattle.blit.proofs.BlitLaws.{course-room, line_done-of-parts}
use Rattle.blit.proofs.done.line_done.Goals as goal

pub line_blit-drawn-requires : goal.line_blit-drawn-requires
line_blit-drawn-requires c = (search first-lt, search first-shift-lt, search first-bit-lt, search course-room)

pub line_round-requires : goal.line_round-requires
line_round-requires c = search line-in-range

pub returns : goal.returns
returns c = search line_done-of-parts
