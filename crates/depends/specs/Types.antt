-- A type by its name of what it holds for each channel, or some of them.
use Rattle.std.specs.Prelude.{Bool}
use Rattle.word.specs.declared.types.Inputs.{Inputs}

-- which of the sources the logic function depends on
abbrev pub Depends : Type 0
Depends = Inputs Bool
