-- Types by their names of what they hold for each channel, or some of them.
use Rattle.std.specs.Prelude.{ℕ}
use Rattle.word.specs.declared.types.Channels.{Channels}
use Rattle.word.specs.declared.types.Inputs.{Inputs}
use Rattle.word.specs.declared.types.Pair.{Pair}
use Rattle.word.specs.declared.types.Pointer.{Pointer}

-- half of each channel's modulo, in words modulo 262,144
abbrev pub Modulos : Type 0
Modulos = Channels ℕ

-- the shift of A and of B
abbrev pub Shifts : Type 0
Shifts = Pair ℕ

-- the pointer of each channel
abbrev pub Pointers : Type 0
Pointers = Channels Pointer

-- what each source gives: the data register, which holds the last word fetched
abbrev pub Sources : Type 0
Sources = Inputs ℕ

-- the earlier word of A, as masked, and of B
abbrev pub Earlier : Type 0
Earlier = Pair ℕ
