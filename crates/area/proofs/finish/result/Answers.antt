-- `area::finish::result_word` meets its contract: the shifts' and the logic function's, one in the other.
use Rattle.word.proofs.Base.{◌≡◌, refl, ℕ}
use Rattle.word.specs.Shift.{shifted}
use Rattle.word.specs.Logic.{logic}
use Rattle.area.specs.declared.types.Flow.{Flow}
use Rattle.area.specs.declared.types.Setup.{Setup}
use Rattle.area.specs.Finish.{result_word}
use Rattle.area.proofs.finish.result.Goals as goal

-- the two words as shifted, and C's
result_word-of-words : (setup : Setup) (flow : Flow) (masked a b made : ℕ)
    → a ≡ shifted setup.direction setup.shifts.a flow.earlier.a masked
    → b ≡ shifted setup.direction setup.shifts.b flow.earlier.b flow.sources.b
    → made ≡ logic setup.function a b flow.sources.c
    → made ≡ result_word setup masked flow
unfolding result_word
result_word-of-words setup flow masked a b made of-a of-b joins = rw (joins, of-a, of-b) refl

pub returns : goal.returns
returns c = search result_word-of-words
