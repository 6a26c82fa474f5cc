-- `round::channel::channel_round` meets its contract: an unused channel doesn't count.
use Rattle.word.proofs.Base.{sym}
use Rattle.round.proofs.ChannelLaws.{channel_round-when-unused, channel_round-when-used}
use Rattle.round.proofs.channel.channel_round.Goals as goal

pub returns-then-not-channel : goal.returns-then-not-channel
returns-then-not-channel c = sym (search channel_round-when-unused)

pub returns : goal.returns
returns c = search channel_round-when-used
