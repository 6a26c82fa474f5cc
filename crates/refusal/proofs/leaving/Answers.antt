-- `refusal::leaving` meets its contract: the channels one after the other, the first that leaves decides.
use Rattle.refusal.proofs.RefusalLaws.{leaving-at-end, leaving-by-a, leaving-by-b, leaving-by-c, leaving-by-d}
use Rattle.refusal.proofs.leaving.Goals as goal

pub returns-then-n : goal.returns-then-n
returns-then-n c = search leaving-at-end

pub returns-in_err-stays : goal.returns-in_err-stays
returns-in_err-stays c = leaving-by-a _ _ c.a.result _ c.a.ensures c.stays.ensures _ _ c.in_err-stays.was c.from_residual.ensures.1

pub returns-in_err-stays-2 : goal.returns-in_err-stays-2
returns-in_err-stays-2 c = leaving-by-b _ _ c.a.result _ c.a.ensures c.stays.ensures _ c.in_ok-stays.was c.b.result _ c.b.ensures c.stays-2.ensures
    _ _ c.in_err-stays-2.was c.from_residual-in_err-stays-2.ensures.1

pub returns-in_err-stays-3 : goal.returns-in_err-stays-3
returns-in_err-stays-3 c = leaving-by-c _ _ c.a.result _ c.a.ensures c.stays.ensures _ c.in_ok-stays.was c.b.result _ c.b.ensures c.stays-2.ensures
    _ c.in_ok-stays-2.was c.c.result _ c.c.ensures c.stays-3.ensures _ _ c.in_err-stays-3.was c.from_residual-in_err-stays-3.ensures.1

pub returns : goal.returns
returns c = leaving-by-d _ _ c.a.result _ c.a.ensures c.stays.ensures _ c.in_ok-stays.was c.b.result _ c.b.ensures c.stays-2.ensures
    _ c.in_ok-stays-2.was c.c.result _ c.c.ensures c.stays-3.ensures _ c.d.result _ c.in_ok-stays-3.was c.d.ensures c.stays-4.ensures
