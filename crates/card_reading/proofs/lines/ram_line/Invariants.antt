-- `card_reading::lines::ram_line` meets its contract: the digits from here on give what all give; a number that is too large stays so.
use Rattle.word.proofs.Base.{◌≡◌, ◌+◌, ◌≤◌, length, drop}
use Rattle.card_reading.specs.RamLine.{digits, spelled, ram_words, ram_end}
use Rattle.card_reading.proofs.lines.ram_line.Given as goal

abbrev pub invariant-loop-at : goal.invariant-loop-at
invariant-loop-at l = (spelled l.words (digits (drop l.at l.text)) ≡ ram_words l.text)
    × (l.at + length (digits (drop l.at l.text)) ≡ ram_end l.text)
    × (l.words ≤ 32768)
