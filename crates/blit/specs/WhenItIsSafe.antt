-- For people who ask when it is safe: a blit says no where the rows of every used channel, counted plainly, lie in memory, with
-- the word behind each but the last; and a line where as many rows and words as it has dots fit on either side of its
-- first dot.
use Rattle.std.specs.Prelude.{ℕ, ◌+◌, ◌<◌, ◌≤◌, ◌≡◌, true, false, List}
use Rattle.word.specs.Pointer.{pointer_end}
use Rattle.word.specs.Control.{line}
use Rattle.file.specs.File.{con1}
use Rattle.line.specs.Dot.{first_dot}
use Rattle.refusal.specs.Plan.{area_plan}
use Rattle.round.specs.Plain.{PlainArea, farthest_dot}
use Rattle.blit.specs.Blit.{blit}

pub record WhenItIsSafe : Type 0 where
  pub area : (memory file : List ℕ) (size : ℕ)
      → line (con1 file) ≡ false
      → PlainArea (area_plan file size)
      → (blit memory file size).round ≡ false
  pub line : (memory file : List ℕ) (size : ℕ)
      → line (con1 file) ≡ true
      → farthest_dot file size ≤ (first_dot file).spot.at.word
      → (first_dot file).spot.at.word + farthest_dot file size < pointer_end
      → (blit memory file size).round ≡ false
