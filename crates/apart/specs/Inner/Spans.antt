-- What the test tells of a channel's rows, and of two channels' words.
use Rattle.std.specs.Prelude.{ℕ, ◌+◌, ◌-◌, ◌*◌, ◌<◌, ◌≤◌, ◌≡◌, true, ◌⊎◌}
pub use Rattle.word.specs.declared.types.Direction.TheVariants.{Ascending, Descending}
pub use Rattle.word.specs.Pointer.{downward}
pub use Rattle.block.specs.declared.types.Size.{Size}
pub use Rattle.block.specs.declared.types.Course.{Course}
use Rattle.block.specs.Inner.Place.{place_at, EvenRows}
pub use Rattle.apart.specs.declared.types.Span.{Span}
pub use Rattle.apart.specs.Inner.Placed.{Direction, Pointer, Setup, Flow, Strides, pointer_end, next_row, nothing}

-- some words in some rows, as a blit may have, and memory no longer than a pointer reaches
pub record Sized (n : ℕ) (size : Size) : Type 0 where
  pub most : n ≤ pointer_end
  pub some : 1 ≤ size.width
  pub narrow : size.width ≤ 64
  pub rows : 1 ≤ size.height
  pub few : size.height ≤ 1024

-- how far a row reaches below its first word; above it lie the others
abbrev pub below : Direction → (width : ℕ) → ℕ
below Ascending width = 0
below Descending width = width - 1

-- a channel's course: its rows start at its pointer
abbrev pub course : Pointer → (far : ℕ) → Course
course pointer far = record { from = pointer.word; far = far }

-- a channel's rows, going up or down without going round, between two words inside memory
pub record Spans (n : ℕ) (direction : Direction) (size : Size) (course : Course) (span : Span) : Type 0 where
  pub sized : Sized n size
  pub inside : span.high < n
  pub bound : course.far < pointer_end
  pub up : course.far < downward → (span.low + below direction size.width ≡ course.from)
      × (course.from + (size.height - 1) * course.far + (size.width - 1 - below direction size.width) ≡ span.high)
  pub down : downward ≤ course.far
      → (span.low + (size.height - 1) * (pointer_end - course.far) + below direction size.width ≡ course.from)
      × (course.from + (size.width - 1 - below direction size.width) ≡ span.high)

-- no word is fetched where one of so many rows of words before it was stored
pub record Clear (direction : Direction) (size : Size) (to of : Course) (rows : ℕ) : Type 0 where
  pub never : (i j : ℕ) → i < size.height * size.width → j < i → i < j + rows * size.width
      → place_at direction size.width to.far to.from j ≡ place_at direction size.width of.far of.from i → ⊥

-- rows a step apart and none over the next: one channel at the other or behind it, or so many steps ahead
pub record Ahead (width step behind front rows : ℕ) : Type 0 where
  pub apart : width ≤ step
  pub short : step < downward
  pub order : (front ≤ behind) ⊎ (behind + rows * step ≤ front)

-- so many rows at a time of a source are clear of D
abbrev pub Calm : Direction → Size → (d x : Span) → (to of : Course) → (rows : ℕ) → Type 0
Calm direction size d x to of rows =
    (n : ℕ) → Spans n direction size to d → Spans n direction size of x → Clear direction size to of rows

-- what is told of a used source: its rows lie inside memory, and where D stores, so many rows at a time are clear of it
pub record Told (n : ℕ) (setup : Setup) (size : Size) (d : Span) (to of : Course) (rows : ℕ) : Type 0 where
  pub inside : EvenRows n setup.direction size.width of.far of.from size.height
  pub clear : setup.uses.d ≡ true → Spans n setup.direction size to d → Clear setup.direction size to of rows

-- how far above a row's start the next one's is
abbrev pub Stride : Direction → (width modulo far : ℕ) → Type 0
Stride direction width modulo far =
    (far ≡ (next_row direction width modulo (record { word = 0 })).word) × (far < pointer_end)

-- the strides of a blit's channels
pub record Evenly (setup : Setup) (width : ℕ) (far : Strides) : Type 0 where
  pub a : Stride setup.direction width setup.modulos.a far.a
  pub b : Stride setup.direction width setup.modulos.b far.b
  pub c : Stride setup.direction width setup.modulos.c far.c
  pub d : Stride setup.direction width setup.modulos.d far.d

-- what is known of a blit before the test
pub record Known (n : ℕ) (setup : Setup) (size : Size) (flow : Flow) (far : Strides) : Type 0 where
  pub sized : Sized n size
  pub shift_a : setup.shifts.a < 16
  pub shift_b : setup.shifts.b < 16
  pub none : flow.pending ≡ nothing
  pub even : Evenly setup size.width far
  pub a : flow.pointers.a.word < pointer_end
  pub b : flow.pointers.b.word < pointer_end
  pub c : flow.pointers.c.word < pointer_end
  pub d : flow.pointers.d.word < pointer_end
