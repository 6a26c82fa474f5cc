-- `apart::calm::source_rows` meets its contract, by whether the source and D are used.
use Rattle.word.proofs.Base.{sym, ◌∙◌, arith, rules}
use Rattle.block.proofs.EachLaws.{never}
use Rattle.apart.proofs.SpanLaws.{spans-inside}
use Rattle.apart.proofs.calm.source_rows.Goals as goal

pub returns-then-setup : goal.returns-then-setup
returns-then-setup c = let x = c.span.ensures _ c.in-Some.is in
    (c.calm.ensures.0, λ some uses. record { inside = spans-inside x; clear = λ stores d. c.calm.ensures.1 some _ d x })

pub returns-else-setup : goal.returns-else-setup
returns-else-setup c = let x = c.span.ensures _ c.in-Some.is in
    (search rules, λ some uses. record { inside = spans-inside x; clear = λ stores d. never (sym stores ∙ c.if-setup.false) })

pub returns-in-None : goal.returns-in-None
returns-in-None c = (omega arith, λ some. absurd (omega arith))

pub returns-then-not-used : goal.returns-then-not-used
returns-then-not-used c = (search rules, λ some uses. never (sym uses ∙ c.if-not-used.true))
