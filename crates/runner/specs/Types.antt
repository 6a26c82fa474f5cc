-- The types of the answers of a step and of a run.
use Rattle.std.specs.Prelude.{Result}
use Rattle.runner.specs.declared.types.Refusal.{Refusal}
use Rattle.blit.specs.declared.types.Done.{Done}
use Rattle.runner.specs.declared.types.Stopped.{Stopped}

-- what one step answers
abbrev pub Taken : Type 0
Taken = Result Done Refusal

-- what a run answers
abbrev pub Answer : Type 0
Answer = Result Done Stopped
