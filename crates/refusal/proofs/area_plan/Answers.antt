-- `refusal::area_plan` meets its contract, field by field.
use Rattle.word.proofs.Base.{refl, arith}
use Rattle.word.proofs.SizeLaws.{height-le, width-le}
use Rattle.refusal.proofs.area_plan.Goals as goal

pub overflow_cast-width : goal.overflow_cast-width
overflow_cast-width c = omega (arith, c.width-width.ensures, width-le c.args.size)

pub overflow_cast-height : goal.overflow_cast-height
overflow_cast-height c = omega (arith, c.height-height.ensures, height-le c.args.size)

pub returns : goal.returns
returns c = rw (c.height-height.ensures, c.width-width.ensures, c.pointers-pointers.ensures, c.setup-setup.ensures) refl
