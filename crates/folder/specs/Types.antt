-- The type of the answers of a folding.
use Rattle.std.specs.Prelude.{Result}
use Rattle.folder.specs.declared.types.Done.{Done}
use Rattle.folder.specs.declared.types.Stopped.{Stopped}

-- what a folding answers
abbrev pub Answer : Type 0
Answer = Result Done Stopped
