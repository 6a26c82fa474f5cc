-- Paper 02, W9: "From each plane's word number, the words per line (1 to 40) and the register file, write one 12-bit
-- colour per pixel".
use Rattle.std.specs.Prelude.{ℕ, zero, suc, ◌+◌, ◌*◌, List, [], ◌∷◌, ◌++◌, get_or}
use Rattle.file.specs.Places.{colour0}
use Rattle.playfield.specs.Playfield.{Playfield, colour_number}

-- the colour of a number is what the file's register of that number holds, that of 0 too
abbrev pub colour : (file : List ℕ) → (number : ℕ) → ℕ
colour file number = get_or file (colour0 + number) 0

abbrev pub pixel_colour : (memory file : List ℕ) → Playfield → (i : ℕ) → ℕ
pixel_colour memory file field i = colour file (colour_number memory field i)

-- n pixels from left to right
unfoldable pub pixels : (pixel : ℕ → ℕ) → (n : ℕ) → List ℕ
pixels pixel zero = []
pixels pixel (suc n) = pixels pixel n ++ (pixel n ∷ [])

abbrev pub line_pixels : Playfield → ℕ
line_pixels field = 16 * field.words

unfoldable pub shown_line : (memory file : List ℕ) → Playfield → List ℕ
shown_line memory file field = pixels (pixel_colour memory file field) (line_pixels field)
