-- `refusal::types::Channel::leaves` meets its contract: unused, or with rows that all lie inside, it stays inside.
use Rattle.refusal.proofs.TouchLaws.{channel_leaves-when-used, channel_leaves-when-inside, channel_leaves-when-unused}
use Rattle.refusal.proofs.types.Channel.leaves.Goals as goal

pub returns-then-not-self : goal.returns-then-not-self
returns-then-not-self c = search channel_leaves-when-unused

pub returns-then-evenly_inside : goal.returns-then-evenly_inside
returns-then-evenly_inside c = search (channel_leaves-when-inside, c.evenly_inside.ensures)

pub returns : goal.returns
returns c = search channel_leaves-when-used
