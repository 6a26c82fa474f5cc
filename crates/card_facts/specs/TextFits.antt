-- What a card gives has at most 60 bytes and 32,768 lines of 16, so that an output of 524,416 bytes holds it.
use Rattle.std.specs.Prelude.{ℕ, ◌≤◌, List, length}
use Rattle.card_text.specs.Card.{printed}

abbrev pub TextFits : Type 0
TextFits = (text : List ℕ) → length (printed text) ≤ 524416
