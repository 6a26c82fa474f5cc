-- `drawing::draw::dot_stored` meets its contract: stored and counted, or not.
use Rattle.drawing.proofs.DrawLaws.{dot_stored-when-stored, dot_stored-when-not}
use Rattle.word.proofs.Base.{refl}
use Rattle.drawing.proofs.draw.dot_stored.Goals as goal

pub returns-then-is_stored : goal.returns-then-is_stored
returns-then-is_stored c = (refl, search dot_stored-when-stored)

pub returns : goal.returns
returns c = (refl, search dot_stored-when-not)
