-- `card_reading::lines::word_at` meets its contract: digit by digit.
use Rattle.card_reading.proofs.ReadingLaws.{word_at-of-parts}
use Rattle.card_reading.proofs.lines.word_at.Goals as goal

pub returns : goal.returns
returns c = search word_at-of-parts
