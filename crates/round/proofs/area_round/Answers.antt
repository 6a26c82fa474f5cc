-- `round::area_round` meets its contract: where the quick look doesn't tell, every channel is gone through.
use Rattle.word.proofs.Base.{sym, rules}
use Rattle.round.proofs.area_round.Goals as goal

pub returns-then-all_clear : goal.returns-then-all_clear
returns-then-all_clear c = sym (c.all_clear.ensures (search rules))
