-- `round::area_by_rows` meets its contract: the channels in their order, the first that goes round decides.
use Rattle.round.proofs.AreaLaws.{area_round-when-a, area_round-when-b, area_round-when-c, area_round-when-last}
use Rattle.round.proofs.area_by_rows.Goals as goal

pub returns-then-channel_round : goal.returns-then-channel_round
returns-then-channel_round c = search area_round-when-a

pub returns-then-channel_round-2 : goal.returns-then-channel_round-2
returns-then-channel_round-2 c = search area_round-when-b

pub returns-then-channel_round-3 : goal.returns-then-channel_round-3
returns-then-channel_round-3 c = search area_round-when-c

pub returns : goal.returns
returns c = search area_round-when-last
