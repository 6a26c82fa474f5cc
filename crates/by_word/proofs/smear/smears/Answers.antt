-- `by_word::smear::smears` meets its contract, test by test.
use Rattle.word.proofs.Base.{sym, mul-le-mul, arith}
use Rattle.block.proofs.EachLaws.{never}
use Rattle.by_word.proofs.SmearLaws.{smearing-of}
use Rattle.by_word.proofs.smear.smears.Goals as goal

pub overflow_mul-words : goal.overflow_mul-words
overflow_mul-words c = omega (arith, mul-le-mul c.requires.sized.few c.requires.sized.narrow)

pub returns-then-far-size : goal.returns-then-far-size
returns-then-far-size c = λ told. never (sym told)

pub overflow_add-a : goal.overflow_add-a
overflow_add-a c = omega (arith, mul-le-mul c.requires.sized.few c.requires.sized.narrow, c.requires.a)

pub overflow_add-d : goal.overflow_add-d
overflow_add-d c = omega (arith, mul-le-mul c.requires.sized.few c.requires.sized.narrow, c.requires.d)

pub returns-then-n-a : goal.returns-then-n-a
returns-then-n-a c = λ told. never (sym told)

pub returns : goal.returns
returns c = λ told. smearing-of _ _ _ _ _ _ (omega arith) (c.alone.ensures told) c.if-far-size.false c.if-n-a.false
