-- `refusal::line_rules::line_plan` meets its contract, field by field.
use Rattle.word.proofs.Base.{refl, arith}
use Rattle.word.proofs.SizeLaws.{height-le}
use Rattle.refusal.proofs.line_rules.line_plan.Goals as goal

pub overflow_cast-dots : goal.overflow_cast-dots
overflow_cast-dots c = omega (arith, c.height-dots.ensures, height-le c.args.size)

pub returns : goal.returns
returns c = rw (c.height-dots.ensures, c.first_dot-first.ensures, c.line_setup-line.ensures) refl
