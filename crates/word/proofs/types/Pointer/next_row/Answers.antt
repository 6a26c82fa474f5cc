-- `Pointer::next_row` meets its contract: the row's moves are one move.
use Rattle.word.proofs.PointerLaws.{next_row-of-moves}
use Rattle.word.proofs.Base.{ap, rules}
use Rattle.word.specs.declared.types.Move.{Move}
use Rattle.word.proofs.types.Pointer.next_row.Goals as goal

pub returns : goal.returns
returns c = next_row-of-moves _ _ _ _ _ _ (search rules) (search rules)
    (ap (λ (move : Move). move.to) c.passed-row.ensures)
    (ap (λ (move : Move). move.to) c.passed-gap.ensures)
