-- A plane that isn't delayed shows its own bits: its bit of the colour number is its pixel, and i - 0 is i.
use Rattle.word.proofs.Base.{◌≡◌, ap, ◌∙◌, ℕ, ◌+◌, ◌-◌, ◌<◌, arith, List, length, get_or}
use Rattle.word.specs.Word.{bit}
use Rattle.word.proofs.WordLaws.{bit-of-of_bits}
use Rattle.playfield.specs.Plane.{own_bit, plane_pixel}
use Rattle.playfield.specs.Playfield.{Playfield, plane_delay, pixel_at, colour_number}
use Rattle.picture.specs.DelayOfNought.{DelayOfNought}
use Rattle.playfield.proofs.PlanesLaws.{plane_pixel-from, plane_pixel-lt}
use Rattle.picture.proofs.LineLaws.{picture-shows}

-- a pixel's bits are the planes' pixels
pub pixel_at-lt : (memory : List ℕ) (field : Playfield) (i place : ℕ) → pixel_at memory field i place < 2
unfolding pixel_at
pixel_at-lt memory field i place = plane_pixel-lt memory (get_or field.planes place 0) (plane_delay field.odd field.even (place + 1)) i

colour_number-bit : (memory : List ℕ) (field : Playfield) (i place : ℕ) → place < length field.planes
    → bit (colour_number memory field i) place ≡ pixel_at memory field i place
unfolding colour_number
colour_number-bit memory field i place below = bit-of-of_bits (pixel_at memory field i) (length field.planes) (pixel_at-lt memory field i) place below

pub plane_pixel-by-zero : (memory : List ℕ) (start i : ℕ) → plane_pixel memory start 0 i ≡ own_bit memory start i
plane_pixel-by-zero memory start i =
    let same : i - 0 ≡ i = omega arith in
    plane_pixel-from memory start 0 i (omega arith) ∙ ap (own_bit memory start) same

pub delay-of-nought : DelayOfNought
unfolding pixel_at
delay-of-nought memory file field out i place done within below nought =
    record {
      shows = picture-shows memory file field out done i within;
      own =
          colour_number-bit memory field i place below
          ∙ ap (λ (delay : ℕ). plane_pixel memory (get_or field.planes place 0) delay i) nought
          ∙ plane_pixel-by-zero memory (get_or field.planes place 0) i;
    }
