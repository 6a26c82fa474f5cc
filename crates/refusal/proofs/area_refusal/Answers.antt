-- `refusal::area_refusal` meets its contract: each test is a rule of the list, in the list's order.
use Rattle.refusal.proofs.RefusalLaws.{area-in-range, handed-of-plan, handed-of-residual, area-by-both-fills, area-by-fill-upward, area-when-leaving, area-when-lawful}
use Rattle.word.proofs.Base.{refl}
use Rattle.refusal.proofs.area_refusal.Goals as goal

pub returns-then-both_fills : goal.returns-then-both_fills
returns-then-both_fills c = (search area-by-both-fills, refl)

pub returns-then-fill_upward : goal.returns-then-fill_upward
returns-then-fill_upward c = (search area-by-fill-upward, refl)

pub leaving-requires : goal.leaving-requires
leaving-requires c = search area-in-range

pub returns-in_err-leaving : goal.returns-in_err-leaving
returns-in_err-leaving c = (search (area-when-leaving, c.in_err-leaving.was, c.from_residual.ensures), handed-of-residual _ _ _ c.from_residual.ensures.1)

pub returns : goal.returns
returns c = (search (area-when-lawful, c.in_ok-leaving.was), search handed-of-plan)
