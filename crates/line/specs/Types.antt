-- A type by its name of what it holds for each channel, or some of them.
use Rattle.std.specs.Prelude.{ℕ}
use Rattle.word.specs.declared.types.Pair.{Pair}

-- what the accumulator gains: the whole modulos of A and B
abbrev pub Gains : Type 0
Gains = Pair ℕ
