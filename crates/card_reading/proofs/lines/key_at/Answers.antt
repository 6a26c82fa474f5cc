-- `card_reading::lines::key_at` meets its contract: letter by letter.
use Rattle.card_reading.proofs.ReadingLaws.{key_at-of-parts}
use Rattle.card_reading.proofs.lines.key_at.Goals as goal

pub returns : goal.returns
returns c = search key_at-of-parts
