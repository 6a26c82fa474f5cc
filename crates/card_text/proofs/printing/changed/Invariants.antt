-- `card_text::printing::changed` meets its contract: the lines from here on give what the whole gives.
use Rattle.word.proofs.Base.{◌≡◌, ◌+◌, ◌*◌, ◌≤◌, drop}
use Rattle.card_text.specs.Printing.{changed}
use Rattle.card_text.specs.Card.{written, writing}
use Rattle.card_text.proofs.printing.changed.Given as goal

abbrev pub invariant-loop-place : goal.invariant-loop-place
invariant-loop-place l = (writing (changed l.place (drop l.place l.ram)) (written l.page.at l.page.run.now)
    ≡ writing (changed 0 l.ram) (written l.initial.page.at l.initial.page.run.now))
    × (l.page.at ≤ l.initial.page.at + l.place * 16)
    × (l.page.run.ghost_name ≡ l.initial.page.run.ghost_name)
