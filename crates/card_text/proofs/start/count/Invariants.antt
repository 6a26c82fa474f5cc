-- `card_text::start::count` meets its contract: the words from here on give what all give.
use Rattle.word.proofs.Base.{◌≡◌, ◌-◌, length}
use Rattle.word.specs.Laid.{laid}
use Rattle.card_text.specs.Run.{counted}
use Rattle.card_text.proofs.start.count.Given as goal

abbrev pub invariant-loop-at : goal.invariant-loop-at
invariant-loop-at l = (laid (counted l.at (length l.initial.ram - l.at)) l.at l.ram ≡ counted 0 (length l.initial.ram))
    × (length l.ram ≡ length l.initial.ram)
