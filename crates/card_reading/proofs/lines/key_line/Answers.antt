-- `card_reading::lines::key_line` meets its contract: where ten bytes are left, the four parts.
use Rattle.card_reading.proofs.ReadingLaws.{key_line-of-parts, key_line-when-cut}
use Rattle.card_reading.proofs.lines.key_line.Goals as goal

pub returns-then-text-at-lt10 : goal.returns-then-text-at-lt10
returns-then-text-at-lt10 c = search key_line-when-cut

pub returns : goal.returns
returns c = search key_line-of-parts
