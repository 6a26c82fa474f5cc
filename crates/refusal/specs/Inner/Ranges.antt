-- The ranges of a channel of an area blit, which every plan's channels have.
use Rattle.std.specs.Prelude.{ℕ, ◌<◌, ◌≤◌}
use Rattle.word.specs.declared.types.Pointer.{Pointer}
use Rattle.word.specs.Pointer.{pointer_end}

-- where it starts, and its words a row and rows
pub record ChannelRange (width rows : ℕ) (pointer : Pointer) : Type 0 where
  pub start : pointer.word < pointer_end
  pub word : 1 ≤ width
  pub narrow : width ≤ 64
  pub row : 1 ≤ rows
  pub low : rows ≤ 1024
