-- Where a channel's pointer stands, told so that its moves lead up whatever the direction. What only a quick look at a
-- channel's first and last row goes by: no blit is defined by it.
use Rattle.std.specs.Prelude.{ℕ, ◌-◌}
use Rattle.word.specs.declared.types.Direction.{Direction}
use Rattle.word.specs.declared.types.Direction.TheVariants.{Ascending, Descending}
use Rattle.word.specs.declared.types.Pointer.{Pointer}
use Rattle.word.specs.Pointer.{pointer_end}

-- how far it stands from the end of memory from which its moves lead away
unfoldable pub onward : Direction → Pointer → ℕ
onward Ascending pointer = pointer.word
onward Descending pointer = pointer_end - 1 - pointer.word
