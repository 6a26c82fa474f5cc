-- `Pointer::passed` meets its contract, direction by direction.
use Rattle.word.proofs.RoundLaws.{modulo_move-when-ascending, modulo_move-when-descending}
use Rattle.word.proofs.types.Pointer.passed.Goals as goal

pub returns-in-Ascending : goal.returns-in-Ascending
returns-in-Ascending c = search modulo_move-when-ascending

pub returns-in-Descending : goal.returns-in-Descending
returns-in-Descending c = search modulo_move-when-descending
