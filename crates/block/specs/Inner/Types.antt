-- A type by its name of what it holds for each channel, or some of them.
use Rattle.std.specs.Prelude.{Bool}
use Rattle.word.specs.declared.types.Inputs.{Inputs}

-- whether a function depends on each source
abbrev pub Needs : Type 0
Needs = Inputs Bool
