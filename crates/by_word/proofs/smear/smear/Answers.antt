-- `by_word::smear::smear` meets its contract: its words are those that A finds.
use Rattle.word.proofs.Base.{refl, mul-le-mul, arith}
use native.Mathlib.Nat.{mul-le-mul_left}
use Rattle.by_word.proofs.SmearLaws.{smear-is}
use Rattle.by_word.proofs.smear.smear.Goals as goal

pub overflow_mul-words : goal.overflow_mul-words
overflow_mul-words c = omega (arith, mul-le-mul c.requires.0.sized.few c.requires.0.sized.narrow)

pub smeared-end-requires : goal.smeared-end-requires
smeared-end-requires c = (c.requires.1.inside_a, c.requires.1.inside_d, c.requires.0.shift_a)

pub words_on-requires : goal.words_on-requires
words_on-requires c = omega (arith, mul-le-mul c.requires.0.sized.few c.requires.0.sized.narrow)

pub words_on-requires-2 : goal.words_on-requires-2
words_on-requires-2 c = omega (arith, mul-le-mul c.requires.0.sized.few c.requires.0.sized.narrow)

pub overflow_cast-result : goal.overflow_cast-result
overflow_cast-result c = omega (arith, mul-le-mul c.requires.0.sized.few c.requires.0.sized.narrow)

pub overflow_add-result : goal.overflow_add-result
overflow_add-result c = omega (arith, mul-le-mul_left c.args.size.height c.requires.0.sized.narrow, c.requires.2)

pub returns : goal.returns
returns c = smear-is _ _ _ _ _ _ _ _ _ c.requires.0 c.requires.1 (rw c.terms-terms.ensures at c.smeared-end.ensures) _ (rw (c.words_on.ensures, c.words_on-2.ensures, c.requires.0.none) refl)
