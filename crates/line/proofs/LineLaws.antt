-- Laws of one dot: the dot after it, and the count.
use Rattle.word.proofs.Base.{◌≡◌, refl, ap, ◌+◌, ◌≤◌, arith}
use Rattle.word.proofs.ChoiceLaws.{if-either}
use Rattle.line.specs.declared.types.Line.{Line}
use Rattle.line.specs.Sing.{is_stored}
use Rattle.line.specs.Line.{State, next, dot_stored, one_dot}

-- the dot after one dot, stored or not, is the next one
dot_stored-keeps-dot : (line : Line) (now : State) → (dot_stored line now).drawn.dot ≡ now.drawn.dot
unfolding dot_stored
dot_stored-keeps-dot line now =
    if-either (λ (after : State). after.drawn.dot ≡ now.drawn.dot) (is_stored line now.drawn.dot) _ now refl refl

pub one_dot-goes-on : (line : Line) (now : State) → (one_dot line now).drawn.dot ≡ next line now.drawn.dot
unfolding one_dot
one_dot-goes-on line now = ap (next line) (dot_stored-keeps-dot line now)

-- and the count is at most one more
pub one_dot-counts : (line : Line) (now : State) → (one_dot line now).drawn.stored ≤ now.drawn.stored + 1
unfolding one_dot dot_stored
one_dot-counts line now =
    if-either (λ (after : State). after.drawn.stored ≤ now.drawn.stored + 1) (is_stored line now.drawn.dot) _ now (omega arith) (omega arith)
