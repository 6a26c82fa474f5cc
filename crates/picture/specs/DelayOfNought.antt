-- The delay of nought: a plane that isn't delayed shows its own bits, whatever the delay of the others.
use Rattle.std.specs.Prelude.{ℕ, ◌+◌, ◌<◌, ◌≡◌, List, length, get_or}
use Rattle.word.specs.Word.{bit}
use Rattle.playfield.specs.Plane.{own_bit}
use Rattle.playfield.specs.Playfield.{Playfield, plane_delay, colour_number}
use Rattle.picture.specs.Line.{colour, line_pixels}
use Rattle.picture.specs.Picture.{picture}

-- pixel i of the run is the colour of a number, of which the plane's bit is bit i of the plane's own stream
pub record ShowsOwnBit (memory file : List ℕ) (field : Playfield) (out : List ℕ) (i place : ℕ) : Type 0 where
  pub shows : get_or (picture memory file field out).out i 0 ≡ colour file (colour_number memory field i)
  pub own : bit (colour_number memory field i) place ≡ own_bit memory (get_or field.planes place 0) i

abbrev pub DelayOfNought : Type 0
DelayOfNought =
    (memory file : List ℕ) (field : Playfield) (out : List ℕ) (i place : ℕ)
    → (picture memory file field out).number ≡ 0
    → i < line_pixels field
    → place < length field.planes
    → plane_delay field.odd field.even (place + 1) ≡ 0
    → ShowsOwnBit memory file field out i place
