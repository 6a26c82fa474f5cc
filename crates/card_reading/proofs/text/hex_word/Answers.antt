-- `card_reading::text::hex_word` meets its contract: digit by digit.
use Rattle.card_reading.proofs.TextLaws.{hex_word-of-parts}
use Rattle.card_reading.proofs.text.hex_word.Goals as goal

pub returns : goal.returns
returns c = search hex_word-of-parts
