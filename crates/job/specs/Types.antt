-- What stands at a place of a job: a step with the place of the next, nothing at the end, or what is refused as no step.
use Rattle.std.specs.Prelude.{ℕ, Option, Result}
use Rattle.job.specs.declared.types.Step.{Step}
use Rattle.job.specs.declared.types.Refusal.{Refusal}

abbrev pub Read : Type 0
Read = Result (Option (Step × ℕ)) Refusal
