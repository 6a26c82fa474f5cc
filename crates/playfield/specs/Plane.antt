-- Paper 02, W9, with the manual's chapter 3: what one bit plane shows of a line.
use Rattle.std.specs.Prelude.{ℕ, ◌+◌, ◌-◌, ◌/◌, ◌%◌, List, ltb, get_or, if◌then◌else◌}
use Rattle.word.specs.Word.{bit}

-- "low resolution": sixteen pixels a word, the leftmost of them bit 15. Bit j of a plane's own stream, which begins at
-- the plane's word number
unfoldable pub own_bit : (memory : List ℕ) → (start j : ℕ) → ℕ
own_bit memory start j = bit (get_or memory (start + j / 16) 0) (15 - j % 16)

-- "Pixels before a delayed plane begins read as 0 in that plane." The others are the stream's, so many pixels later
unfoldable pub plane_pixel : (memory : List ℕ) → (start delay i : ℕ) → ℕ
plane_pixel memory start delay i =
    if ltb i delay then 0 else
    own_bit memory start (i - delay)
