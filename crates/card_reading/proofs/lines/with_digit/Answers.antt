-- `card_reading::lines::with_digit` meets its contract: a digit is no less than 0's byte, and the number stays small.
use Rattle.card_reading.proofs.TextLaws.{decimal_digit-ge}
use Rattle.word.proofs.Base.{rules}
use Rattle.card_reading.proofs.lines.with_digit.Goals as goal

pub overflow_sub-result : goal.overflow_sub-result
overflow_sub-result c = search (rules, decimal_digit-ge)
