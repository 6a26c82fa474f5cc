-- One plane shows two colours at most: those of the registers 0 and 1.
use Rattle.std.specs.Prelude.{ℕ, ◌<◌, ◌≡◌, List, ◌⊎◌, length, get_or}
use Rattle.playfield.specs.Playfield.{Playfield}
use Rattle.picture.specs.Line.{colour, line_pixels}
use Rattle.picture.specs.Picture.{picture}

abbrev pub OnePlaneTwoColours : Type 0
OnePlaneTwoColours =
    (memory file : List ℕ) (field : Playfield) (out : List ℕ) (i : ℕ)
    → length field.planes ≡ 1
    → (picture memory file field out).number ≡ 0
    → i < line_pixels field
    → (get_or (picture memory file field out).out i 0 ≡ colour file 0)
    ⊎ (get_or (picture memory file field out).out i 0 ≡ colour file 1)
