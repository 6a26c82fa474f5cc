-- A type by its name of what it holds for each channel, or some of them.
use Rattle.std.specs.Prelude.{ℕ}
use Rattle.word.specs.declared.types.Channels.{Channels}

-- how far above a row's start the next one's is, for each channel
abbrev pub Strides : Type 0
Strides = Channels ℕ
