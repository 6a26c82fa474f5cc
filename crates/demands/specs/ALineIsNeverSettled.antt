-- Paper 02, W3: "A line is never settled", whatever the folder knows of the register file that has the line bit.
use Rattle.std.specs.Prelude.{ℕ, ◌≡◌, true, false, List, length, get_or, Option, Some}
use Rattle.word.specs.Control.{line}
use Rattle.file.specs.Places.{blitter_length}
use Rattle.file.specs.File.{con1}
use Rattle.knowledge.specs.Knowledge.{known_at}
use Rattle.settled.specs.Settled.{settled}

-- every register that is known holds its number
abbrev pub ALineIsNeverSettled : Type 0
ALineIsNeverSettled =
    (n : ℕ) (known : List (Option ℕ)) (file : List ℕ) (size : ℕ)
    → length known ≡ blitter_length
    → ((place value : ℕ) → known_at known place ≡ Some value → get_or file place 0 ≡ value)
    → line (con1 file) ≡ true
    → settled n known size ≡ false
