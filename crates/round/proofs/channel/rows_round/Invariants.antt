-- `round::channel::rows_round` meets its contract: the rows from one on tell what all tell.
use Rattle.word.proofs.Base.{◌≡◌, ◌+◌, ◌-◌, ◌<◌}
use Rattle.word.specs.Pointer.{pointer_end}
use Rattle.round.specs.Between.{went_round}
use Rattle.round.specs.Channel.{channel_moves}
use Rattle.round.proofs.channel.rows_round.Given as goal

abbrev pub invariant-loop-row : goal.invariant-loop-row
invariant-loop-row l = (went_round (channel_moves l.channel.direction l.channel.width l.channel.modulo (l.channel.rows + 1 - l.row) l.here) ≡ went_round (channel_moves l.channel.direction l.channel.width l.channel.modulo l.channel.rows l.channel.pointer))
    × (l.here.word < pointer_end)
