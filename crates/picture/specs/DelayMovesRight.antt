-- A line with the same delay on both is the line without, moved so many pixels right, with colour 0's pixels before it;
-- what is moved past the line's end is dropped. Both are done, or both are refused with the same number.
use Rattle.std.specs.Prelude.{ℕ, ◌≤◌, ◌≡◌, List, ◌++◌, take, drop, replicate}
use Rattle.playfield.specs.Playfield.{most_delay, playfield}
use Rattle.picture.specs.Line.{colour, line_pixels}
use Rattle.picture.specs.Picture.{Picture, picture}

-- the picture with a delay on both
abbrev pub delayed_by : (d : ℕ) → (memory file planes : List ℕ) → (words : ℕ) → (out : List ℕ) → Picture
delayed_by d memory file planes words out = picture memory file (playfield planes words d d) out

pub record MovedRight (d : ℕ) (memory file planes : List ℕ) (words : ℕ) (out : List ℕ) : Type 0 where
  pub number : (delayed_by d memory file planes words out).number ≡ (delayed_by 0 memory file planes words out).number
  pub moved : (delayed_by d memory file planes words out).number ≡ 0
      → (delayed_by d memory file planes words out).out
      ≡ take (line_pixels (playfield planes words d d))
      (replicate d (colour file 0) ++ (delayed_by 0 memory file planes words out).out)
      ++ drop (line_pixels (playfield planes words d d)) out

abbrev pub DelayMovesRight : Type 0
DelayMovesRight =
    (d : ℕ) (memory file planes : List ℕ) (words : ℕ) (out : List ℕ)
    → d ≤ most_delay
    → MovedRight d memory file planes words out
