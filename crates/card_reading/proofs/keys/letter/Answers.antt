-- `card_reading::keys::letter` meets its contract: the table's letters, one key after the other, are the list of letters.
use Rattle.card_reading.specs.Keys.{letters}
use Rattle.card_reading.proofs.KeysLaws.{in_a_row, all_four, letter-of-row}
use Rattle.card_reading.proofs.keys.letter.Goals as goal

pub returns : goal.returns
unfolding letters in_a_row all_four
returns c = search letter-of-row
