-- The range of what a line goes by, which every plan has: its first dot, and how many dots.
use Rattle.std.specs.Prelude.{ℕ, ◌<◌, ◌≤◌}
use Rattle.word.specs.Pointer.{pointer_end}
use Rattle.line.specs.declared.types.Dot.{Dot}

pub record LineRange (dots : ℕ) (first : Dot) : Type 0 where
  pub start : first.spot.at.word < pointer_end
  pub shift : first.spot.shift < 16
  pub bit : first.bit < 16
  pub some : 1 ≤ dots
  pub few : dots ≤ 1024
