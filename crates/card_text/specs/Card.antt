-- Paper 01, "The bench card": the text that a card gives, and the output as it is left.
use Rattle.std.specs.Prelude.{ℕ, ◌+◌, List, eqb, length, if◌then◌else◌}
use Rattle.word.specs.Laid.{laid}
use Rattle.card_reading.specs.Reading.{bad_line}
use Rattle.card_text.specs.Run.{card_run}
use Rattle.card_text.specs.Printing.{printed_run, printed_bad}

unfoldable pub printed : (text : List ℕ) → List ℕ
printed text =
    if eqb (bad_line text) 0 then printed_run (card_run text) else
    printed_bad (bad_line text)

-- an output and how far it is written
pub record Written : Type 0 where
  pub at : ℕ
  pub out : List ℕ

abbrev pub written : (at : ℕ) → (out : List ℕ) → Written
written at out = record { at = at; out = out }

-- a text written on from there; what lies past the output's end isn't written, but counts
unfoldable pub writing : (text : List ℕ) → Written → Written
writing text before = written (before.at + length text) (laid text before.at before.out)
