-- Paper 02, W9: "one playfield with the chapter 3 delay of 0 to 15 pixels for odd and even planes apart".
use Rattle.std.specs.Prelude.{ℕ, ◌+◌, ◌%◌, List, eqb, length, get_or, if◌then◌else◌}
use Rattle.word.specs.Word.{of_bits}
use Rattle.playfield.specs.Plane.{plane_pixel}

-- "one to five bit planes"
abbrev pub most_planes : ℕ
most_planes = 5

-- "words per line (1 to 40)"
abbrev pub most_words : ℕ
most_words = 40

-- "delay of 0 to 15 pixels"
abbrev pub most_delay : ℕ
most_delay = 15

-- "each plane's word number", that of plane 1 first; "the words per line"; the delays
pub record Playfield : Type 0 where
  pub planes : List ℕ
  pub words : ℕ
  pub odd : ℕ
  pub even : ℕ

abbrev pub playfield : (planes : List ℕ) → (words odd even : ℕ) → Playfield
playfield planes words odd even = record { planes = planes; words = words; odd = odd; even = even }

-- the delay of a plane, by its number: of planes 1, 3, 5 the odd one, of 2 and 4 the even one
unfoldable pub plane_delay : (odd even number : ℕ) → ℕ
plane_delay odd even number =
    if eqb (number % 2) 1 then odd else
    even

-- pixel i of the plane that stands at a place of the list; plane 1 stands at place 0
unfoldable pub pixel_at : (memory : List ℕ) → Playfield → (i place : ℕ) → ℕ
pixel_at memory field i place =
    plane_pixel memory (get_or field.planes place 0) (plane_delay field.odd field.even (place + 1)) i

-- "Plane 1 is the lowest bit of the colour number"
unfoldable pub colour_number : (memory : List ℕ) → Playfield → (i : ℕ) → ℕ
colour_number memory field i = of_bits (pixel_at memory field i) (length field.planes)
