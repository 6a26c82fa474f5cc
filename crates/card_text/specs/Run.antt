-- Paper 01, "The bench card": "Word i starts as i, registers as zero", and the card's job is run on them.
use Rattle.std.specs.Prelude.{ℕ, zero, suc, ◌+◌, List, [], ◌∷◌}
use Rattle.file.specs.Places.{file_length}
use Rattle.runner.specs.Run.{End, run}
use Rattle.card_reading.specs.RamLine.{ram_words}
use Rattle.card_reading.specs.Job.{card_job}

-- so many words that count up from a number
unfoldable pub counted : (from many : ℕ) → List ℕ
counted from zero = []
counted from (suc many) = from ∷ counted (from + 1) many

unfoldable pub zeros : (many : ℕ) → List ℕ
zeros zero = []
zeros (suc many) = 0 ∷ zeros many

-- the run that a good card asks for
unfoldable pub card_run : (text : List ℕ) → End
card_run text = run (counted 0 (ram_words text)) (zeros file_length) (card_job text)
