-- `card_reading::text::hex_value` meets its contract, for a digit, a capital and any other byte.
use Rattle.card_reading.proofs.TextLaws.{decimal_digit-ge, hex_value-when-decimal, decimal-lt, capital-ge, capital-le, hex_value-when-capital, capital-lt, hex_value-when-none}
use Rattle.word.proofs.Base.{rules}
use Rattle.card_reading.proofs.text.hex_value.Goals as goal

pub overflow_sub-result : goal.overflow_sub-result
overflow_sub-result c = search (rules, decimal_digit-ge)

pub returns-then-decimal_digit : goal.returns-then-decimal_digit
returns-then-decimal_digit c = record { value = search hex_value-when-decimal; upper_bound = search decimal-lt }

pub overflow_sub-result-then-capital : goal.overflow_sub-result-then-capital
overflow_sub-result-then-capital c = search (rules, capital-ge)

pub overflow_add-result : goal.overflow_add-result
overflow_add-result c = search (rules, capital-ge, capital-le)

pub returns-then-capital : goal.returns-then-capital
returns-then-capital c = record { value = search hex_value-when-capital; upper_bound = search capital-lt }

pub returns : goal.returns
returns c = record { value = search hex_value-when-none; upper_bound = search rules }
