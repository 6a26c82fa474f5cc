use Rattle.word.proofs.Base.{rules}
use Rattle.round.proofs.ChannelLaws.{rows-when-steps, rows-when-gap, rows-turn, gap-lt, rows-done}
use Rattle.round.proofs.channel.rows_round.Goals as goal

pub returns-then-steps : goal.returns-then-steps
returns-then-steps c = search rows-when-steps

pub returns-then-gap : goal.returns-then-gap
returns-then-gap c = search rows-when-gap

pub loop-row-preserved : goal.loop-row-preserved
loop-row-preserved c = (search (rules, rows-turn), search (rules, gap-lt))

pub returns : goal.returns
returns c = search (rules, rows-done)
