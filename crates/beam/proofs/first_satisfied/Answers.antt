use Rattle.word.proofs.Base.{rules}
use Rattle.beam.proofs.SatisfiedLaws.{satisfied-told}
use Rattle.beam.proofs.WaitLaws.{first_satisfied-at, first_satisfied-past, first_satisfied-turn}
use Rattle.beam.proofs.first_satisfied.Goals as goal

pub returns-then-satisfied : goal.returns-then-satisfied
returns-then-satisfied c = search first_satisfied-at

pub next_tried-place-requires : goal.next_tried-place-requires
next_tried-place-requires c = (search rules, search satisfied-told)

pub loop-place-preserved : goal.loop-place-preserved
loop-place-preserved c = search first_satisfied-turn

pub returns : goal.returns
returns c = search first_satisfied-past
