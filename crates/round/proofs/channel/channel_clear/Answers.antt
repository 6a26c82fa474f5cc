-- `round::channel::channel_clear` meets its contract: an unused channel doesn't count, and a clear one doesn't go round.
use Rattle.round.proofs.ChannelLaws.{channel_round-when-unused, channel_round-when-clear}
use Rattle.round.proofs.channel.channel_clear.Goals as goal

pub returns-then-not-channel : goal.returns-then-not-channel
returns-then-not-channel c = λ _. search channel_round-when-unused

pub returns : goal.returns
returns c = λ holds. channel_round-when-clear _ _ _ _ _ _ (c.clear.ensures holds)
