-- `word::even::distance` meets its contract: 1,023 strides of at most 131,072 words.
use Rattle.word.proofs.StrideLaws.{distance-le, distance-fits}
use Rattle.word.proofs.Base.{rules}
use Rattle.word.proofs.even.distance.Goals as goal

pub overflow_mul-result : goal.overflow_mul-result
overflow_mul-result c = search distance-fits

pub returns : goal.returns
returns c = (search rules, search distance-le)
