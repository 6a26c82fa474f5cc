-- `refusal::line_rules::line_refusal` meets its contract: each test is a rule of the list, in the list's order.
use Rattle.refusal.proofs.RefusalLaws.{line-by-form, line-by-pointers, line-by-leaving, line-by-none, first-lt, first-shift-lt, first-bit-lt, handed-of-line}
use Rattle.word.proofs.Base.{refl}
use Rattle.refusal.proofs.line_rules.line_refusal.Goals as goal

pub returns-then-other_form : goal.returns-then-other_form
returns-then-other_form c = (search line-by-form, refl)

pub returns-then-pointers_differ : goal.returns-then-pointers_differ
returns-then-pointers_differ c = (search line-by-pointers, refl)

pub line_leaves-requires : goal.line_leaves-requires
line_leaves-requires c = (search first-lt, search first-shift-lt, search first-bit-lt)

pub returns-then-line_leaves : goal.returns-then-line_leaves
returns-then-line_leaves c = (search line-by-leaving, refl)

pub returns : goal.returns
returns c = (search line-by-none, search handed-of-line)
