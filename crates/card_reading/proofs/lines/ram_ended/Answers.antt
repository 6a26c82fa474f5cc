-- `card_reading::lines::ram_ended` meets its contract: a number from 1 on, and the newline.
use Rattle.card_reading.proofs.RamLaws.{ram_ended-when-none, ram_ended-at-end, ram_ended-when-newline, ram_ended-when-other}
use Rattle.card_reading.proofs.lines.ram_ended.Goals as goal

pub returns-then-words-eq0 : goal.returns-then-words-eq0
returns-then-words-eq0 c = search ram_ended-when-none

pub returns-then-text-at : goal.returns-then-text-at
returns-then-text-at c = search ram_ended-at-end

pub returns-then-text-at-eq10 : goal.returns-then-text-at-eq10
returns-then-text-at-eq10 c = search ram_ended-when-newline

pub returns : goal.returns
returns c = search ram_ended-when-other
