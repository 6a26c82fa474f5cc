-- A good card has at most 210 bytes, so that the first 256 of a text decide what it gives, however long it is.
use Rattle.std.specs.Prelude.{ℕ, ◌≡◌, List, take}
use Rattle.card_text.specs.Card.{printed}

abbrev pub FirstBytesDecide : Type 0
FirstBytesDecide = (text : List ℕ) → printed (take 256 text) ≡ printed text
