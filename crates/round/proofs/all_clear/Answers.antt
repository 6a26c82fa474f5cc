-- `round::all_clear` meets its contract: it says yes only where each channel's look does.
use Rattle.word.proofs.EvenLaws.{nothing-promised}
use Rattle.round.proofs.AreaLaws.{area_round-of-clear}
use Rattle.round.proofs.all_clear.Goals as goal

pub returns-then-not-channel_clear : goal.returns-then-not-channel_clear
returns-then-not-channel_clear c = nothing-promised

pub returns-then-not-channel_clear-2 : goal.returns-then-not-channel_clear-2
returns-then-not-channel_clear-2 c = nothing-promised

pub returns-then-not-channel_clear-3 : goal.returns-then-not-channel_clear-3
returns-then-not-channel_clear-3 c = nothing-promised

pub returns : goal.returns
returns c = λ holds.
    area_round-of-clear _ c.a.result c.b.result c.c.result c.d.result c.a.ensures c.b.ensures c.c.ensures c.d.ensures
    (c.channel_clear.ensures c.if-not-channel_clear.false)
    (c.channel_clear-2.ensures c.if-not-channel_clear-2.false)
    (c.channel_clear-3.ensures c.if-not-channel_clear-3.false)
    (c.channel_clear-4.ensures holds)
