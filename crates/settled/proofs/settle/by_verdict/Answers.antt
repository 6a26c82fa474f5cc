-- `settled::settle::by_verdict` meets its contract: no refusal has the number 0, and a lawful blit goes by its plan.
use Rattle.blit.proofs.BlitLaws.{plan-of-verdict}
use Rattle.settled.proofs.SettledLaws.{kept-when-refused, fate-when-lawful}
use Rattle.settled.proofs.settle.by_verdict.Goals as goal

pub goes_round-requires : goal.goes_round-requires
goes_round-requires c = search plan-of-verdict

pub returns-in-Err : goal.returns-in-Err
returns-in-Err c = search kept-when-refused

pub returns-in-Ok : goal.returns-in-Ok
returns-in-Ok c = search fate-when-lawful
