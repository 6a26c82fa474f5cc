use Rattle.word.proofs.Base.{arith, rules}
use Rattle.beam.proofs.WaitLaws.{first_satisfied-past-line, first_satisfied-past-place, first_satisfied-on-line, first_satisfied-past-positions}
use Rattle.beam.proofs.next_tried.Goals as goal

pub returns-then-line_below : goal.returns-then-line_below
returns-then-line_below c = (search rules, search rules, search first_satisfied-past-line)

pub loop-position-init : goal.loop-position-init
loop-position-init c = search first_satisfied-past-place

pub returns-then-least-position : goal.returns-then-least-position
returns-then-least-position c = (search rules, search rules, c.loop-position.invariant)

pub loop-position-preserved : goal.loop-position-preserved
loop-position-preserved c = search (rules, first_satisfied-on-line)

pub returns : goal.returns
returns c = (
  search rules,
  search rules,
  first_satisfied-past-positions _ _ _ _ _ (c.loop-position.auto.position-end (omega arith)) c.loop-position-test.false c.loop-position.invariant,
)
