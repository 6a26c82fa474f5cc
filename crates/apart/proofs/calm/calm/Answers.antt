-- `apart::calm::calm` meets its contract: apart altogether, or along each other.
use Rattle.word.proofs.Base.{arith, rules}
use mathlib.Core.Logic.{inl, inr}
use Rattle.apart.proofs.ClearLaws.{calm-apart, calm-up, calm-down}
use Rattle.apart.proofs.calm.calm.Goals as goal

pub returns-then-x-d : goal.returns-then-x-d
returns-then-x-d c = (search rules, λ some. calm-apart (inl c.if-x-d.true))

pub returns-then-d-x : goal.returns-then-d-x
returns-then-d-x c = (search rules, λ some. calm-apart (inr c.if-d-x.true))

pub returns-then-to-of : goal.returns-then-to-of
returns-then-to-of c = (omega arith, λ some. absurd (omega arith))

pub returns-in-Ascending : goal.returns-in-Ascending
returns-in-Ascending c = (c.ahead.ensures.0, λ some. calm-up c.in-Ascending.is (omega arith) (c.ahead.ensures.1 some))

pub returns-in-Descending : goal.returns-in-Descending
returns-in-Descending c = (c.ahead-in-Descending.ensures.0, λ some. calm-down c.in-Descending.is (omega arith) (c.ahead-in-Descending.ensures.1 some))
