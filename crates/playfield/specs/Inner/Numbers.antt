-- The colour numbers of a line in a local array, as its planes are laid one after the other.
use Rattle.std.specs.Prelude.{ℕ, ◌+◌, ◌-◌, ◌*◌, ◌<◌, ◌≤◌, ◌≡◌, List, ltb, length, get_or, if◌then◌else◌}
use Rattle.word.specs.Word.{bit, of_bits}
use Rattle.playfield.specs.Plane.{plane_pixel}
use Rattle.playfield.specs.Playfield.{most_planes, most_words, most_delay, Playfield, plane_delay}

-- the longest line, and room for what the longest delay pushes past its end
abbrev pub room : ℕ
room = 656

-- a playfield that isn't refused, on memory of n words
pub record Drawable (n : ℕ) (field : Playfield) : Type 0 where
  pub planes : length field.planes ≤ most_planes
  pub words : field.words ≤ most_words
  pub odd : field.odd ≤ most_delay
  pub even : field.even ≤ most_delay
  pub inside : (place : ℕ) → place < length field.planes → get_or field.planes place 0 + field.words ≤ n

-- what the first n bits of a word give pixel i, the leftmost of them pixel s
unfoldable pub word_pixel : (word s n i : ℕ) → ℕ
word_pixel word s n i =
    if ltb i s then 0 else
    if ltb i (s + n) then bit word (15 - (i - s)) else
    0

-- what the first words of a plane give pixel i
unfoldable pub words_pixel : (memory : List ℕ) → (start delay words i : ℕ) → ℕ
words_pixel memory start delay words i =
    if ltb i (delay + 16 * words) then plane_pixel memory start delay i else
    0

-- every number has grown by the weight times the pixel
pub record Grown (weight : ℕ) (pixel : ℕ → ℕ) (before numbers : List ℕ) : Type 0 where
  pub long : length numbers ≡ room
  pub each : (i : ℕ) → get_or numbers i 0 ≡ get_or before i 0 + pixel i * weight

-- no number is above a most
abbrev pub UpTo : (most : ℕ) → (numbers : List ℕ) → Type 0
UpTo most numbers = (i : ℕ) → get_or numbers i 0 ≤ most

-- what the words of the plane at a place give pixel i
unfoldable pub place_pixel : (memory : List ℕ) → Playfield → (i place : ℕ) → ℕ
place_pixel memory field i place =
    words_pixel memory (get_or field.planes place 0)
    (plane_delay field.odd field.even (place + 1)) field.words i

-- the first planes are laid
pub record Numbered (memory : List ℕ) (field : Playfield) (planes : ℕ) (numbers : List ℕ) : Type 0 where
  pub long : length numbers ≡ room
  pub each : (i : ℕ) → get_or numbers i 0 ≡ of_bits (place_pixel memory field i) planes
