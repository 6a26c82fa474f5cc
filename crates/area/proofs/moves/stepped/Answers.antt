-- `area::moves::stepped` meets its contract: a move by one word.
use Rattle.std.specs.Prelude.{if◌then◌else◌}
use Rattle.word.proofs.Base.{ap, ◌∙◌}
use Rattle.word.specs.declared.types.Pointer.{Pointer}
use Rattle.word.proofs.RoundLaws.{passed-one}
use Rattle.area.specs.Move.{turned, stepped}
use Rattle.area.proofs.moves.stepped.Goals as goal

pub returns : goal.returns
unfolding turned stepped
returns c =
    c.turned.ensures
    ∙ ap (λ (to : Pointer). if c.args.used then to else c.args.pointer) (passed-one c.args.direction c.args.pointer)
