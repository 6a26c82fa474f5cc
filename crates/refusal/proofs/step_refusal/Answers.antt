-- `refusal::step_refusal` meets its contract: by the line bit, a line's rules or an area blit's.
use Rattle.refusal.proofs.RefusalLaws.{refused-by-line, refused-by-area, handed-by-line, handed-by-area}
use Rattle.refusal.proofs.step_refusal.Goals as goal

pub returns-then-line : goal.returns-then-line
returns-then-line c = (search refused-by-line, search handed-by-line)

pub returns : goal.returns
returns c = (search refused-by-area, search handed-by-area)
