-- `blit::blit` meets its contract: refused, or done as the plan says.
use Rattle.blit.proofs.BlitLaws.{plan-of-verdict, blit-when-lawful, blit-when-refused}
use Rattle.blit.proofs.blit.Goals as goal

pub done-requires : goal.done-requires
done-requires c = search (plan-of-verdict, c.in_ok-by.was)

pub returns-in_err-by : goal.returns-in_err-by
returns-in_err-by c = search (blit-when-refused, c.in_err-by.was, c.from_residual.ensures)

pub returns : goal.returns
returns c = search (blit-when-lawful, c.in_ok-by.was)
