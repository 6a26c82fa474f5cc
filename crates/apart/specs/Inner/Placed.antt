-- Where the channels of a blit lie, as blocks must find them.
use Rattle.std.specs.Prelude.{ℕ, ◌<◌, ◌≤◌, ◌≡◌, Bool, true}
pub use Rattle.word.specs.declared.types.Direction.{Direction}
pub use Rattle.word.specs.declared.types.Pointer.{Pointer}
pub use Rattle.word.specs.Pointer.{pointer_end, next_row}
pub use Rattle.area.specs.declared.types.Setup.{Setup}
pub use Rattle.area.specs.declared.types.Flow.{Flow}
pub use Rattle.area.specs.Flow.{nothing}
use Rattle.block.specs.Inner.Place.{EvenRows}
pub use Rattle.apart.specs.Inner.Types.{Strides}

-- a channel's rows are evenly apart, so many words; if it is used, they lie inside memory and none goes round
pub record Channel (n : ℕ) (direction : Direction) (width rows modulo : ℕ) (used : Bool) (pointer : Pointer) (far : ℕ) : Type 0 where
  pub stride : far ≡ (next_row direction width modulo (record { word = 0 })).word
  pub small : pointer.word < pointer_end
  pub inside : used ≡ true → EvenRows n direction width far pointer.word rows

pub record Placed (n : ℕ) (setup : Setup) (width rows : ℕ) (flow : Flow) (far : Strides) : Type 0 where
  pub most : n ≤ pointer_end
  pub some : 1 ≤ width
  pub narrow : width ≤ 64
  pub shift_a : setup.shifts.a < 16
  pub shift_b : setup.shifts.b < 16
  pub none : flow.pending ≡ nothing
  pub a : Channel n setup.direction width rows setup.modulos.a setup.uses.a flow.pointers.a far.a
  pub b : Channel n setup.direction width rows setup.modulos.b setup.uses.b flow.pointers.b far.b
  pub c : Channel n setup.direction width rows setup.modulos.c setup.uses.c flow.pointers.c far.c
  pub d : Channel n setup.direction width rows setup.modulos.d setup.uses.d flow.pointers.d far.d
