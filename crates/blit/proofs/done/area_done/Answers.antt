-- `blit::done::area_done` meets its contract: what all rows leave is written back.
use Rattle.refusal.proofs.RefusalLaws.{area-in-range}
use Rattle.blit.proofs.BlitLaws.{area_done-of-parts}
use Rattle.blit.proofs.done.area_done.Goals as goal

pub area_round-round-requires : goal.area_round-round-requires
area_round-round-requires c = search area-in-range

pub returns : goal.returns
returns c = search area_done-of-parts
