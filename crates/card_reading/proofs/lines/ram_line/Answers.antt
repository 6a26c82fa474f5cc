use Rattle.word.proofs.Base.{not-false, rules}
use Rattle.card_reading.proofs.RamLaws.{digits-when-other, spelled-turn, digits-turn, digits-at-end, ram_read-when-keyless, ram_read-when-zero, ram_read-when-large, ram_read-when-ended, ram_ended-at-end}
use Rattle.card_reading.proofs.TextLaws.{decimal_digit-holds}
use Rattle.card_reading.proofs.lines.ram_line.Goals as goal

pub returns-then-not-ram_key : goal.returns-then-not-ram_key
returns-then-not-ram_key c = search ram_read-when-keyless

pub returns-then-byte-eq48 : goal.returns-then-byte-eq48
returns-then-byte-eq48 c = search ram_read-when-zero

pub returns-then-not-decimal_digit : goal.returns-then-not-decimal_digit
returns-then-not-decimal_digit c = search (ram_read-when-ended, digits-when-other)

pub with_digit-words-requires : goal.with_digit-words-requires
with_digit-words-requires c = (search rules, search (decimal_digit-holds, not-false))

pub returns-then-words-gt32768 : goal.returns-then-words-gt32768
returns-then-words-gt32768 c = search (ram_read-when-large, not-false)

pub loop-at-preserved : goal.loop-at-preserved
loop-at-preserved c = (search spelled-turn, search digits-turn, search rules)

pub returns : goal.returns
returns c = search (ram_read-when-ended, digits-at-end, ram_ended-at-end)
