-- The examples are computed.
use Rattle.word.proofs.Base.{refl}
use Rattle.word.specs.Choice.{given}
use Rattle.word.specs.Pointer.{pointer}
use Rattle.file.specs.File.{registers, place_in, place, is_register}
use Rattle.job.specs.Kind.{kind}
use Rattle.job.specs.Step.{operands, found, begun, front, step_at, read_number}
use Rattle.job.specs.Examples.{examples}
use Rattle.job.proofs.theorems.first_words.Goals as goal

pub returns : goal.returns
unfolding examples read_number given step_at front begun found operands kind is_register place place_in registers pointer
returns c = refl
