-- `stores::rows::Rows::finish` meets its contract, field by field.
use Rattle.word.proofs.Base.{refl}
use Rattle.area.specs.Finish.{final, finish}
use Rattle.stores.proofs.rows.Rows.finish.Goals as goal

pub returns : goal.returns
unfolding finish final
returns c = rw (c.filled-filled.ensures, c.result-word.ensures, c.masked_a-a.ensures) refl
