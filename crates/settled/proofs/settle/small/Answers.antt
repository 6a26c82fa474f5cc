-- `settled::settle::small` meets its contract: the product of height and width, which fits.
use Rattle.word.proofs.SizeLaws.{words-fit}
use Rattle.settled.proofs.SettledLaws.{small-of-parts}
use Rattle.settled.proofs.settle.small.Goals as goal

pub overflow_mul-result : goal.overflow_mul-result
overflow_mul-result c = search words-fit

pub returns : goal.returns
returns c = search small-of-parts
