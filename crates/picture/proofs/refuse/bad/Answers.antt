-- `picture::refuse::bad` meets its contract: the far end tested the other way round.
use Rattle.word.proofs.Base.{◌≡◌, ap, ℕ, Bool, ◌||◌, eqb, ltb}
use Rattle.word.proofs.ChoiceLaws.{beyond-is-not-within}
use Rattle.picture.specs.Refusal.{bad}
use Rattle.picture.proofs.refuse.bad.Goals as goal

bad-is-beyond : (number most : ℕ) → (eqb number 0 || ltb most number) ≡ bad number most
unfolding bad
bad-is-beyond number most = ap (λ (beyond : Bool). eqb number 0 || beyond) (beyond-is-not-within most number)

pub returns : goal.returns
returns c = search bad-is-beyond
