-- `refusal::line_rules::other_form` meets its contract: the width, and the four use bits.
use Rattle.refusal.specs.Refusal.{other_form}
use Rattle.word.proofs.Base.{refl}
use Rattle.refusal.proofs.line_rules.other_form.Goals as goal

pub returns : goal.returns
unfolding other_form
returns c = refl
