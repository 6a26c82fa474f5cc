-- `refusal::line_rules::pointers_differ` meets its contract: the two pointers.
use Rattle.refusal.proofs.RefusalLaws.{pointers_differ-of-two}
use Rattle.refusal.proofs.line_rules.pointers_differ.Goals as goal

pub returns : goal.returns
returns c = search pointers_differ-of-two
