-- Paper 02, W9: "write one 12-bit colour per pixel". Every pixel of a line that is done has 12 bits.
use Rattle.std.specs.Prelude.{ℕ, ◌<◌, ◌≡◌, List, get_or}
use Rattle.playfield.specs.Playfield.{Playfield}
use Rattle.picture.specs.Line.{line_pixels}
use Rattle.picture.specs.Picture.{picture}

abbrev pub TwelveBits : Type 0
TwelveBits =
    (memory file : List ℕ) (field : Playfield) (out : List ℕ) (i : ℕ)
    → (picture memory file field out).number ≡ 0
    → i < line_pixels field
    → get_or (picture memory file field out).out i 0 < 0x1000
