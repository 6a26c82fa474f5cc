-- `refusal::refusal` meets its contract: memory and file are tried first, then the rules of the blit.
use Rattle.word.proofs.Base.{refl, rules}
use Rattle.refusal.proofs.RefusalLaws.{refused-by-memory, refused-by-file, refused-by-blit}
use Rattle.refusal.proofs.refusal.Goals as goal

pub returns-then-memory_size : goal.returns-then-memory_size
returns-then-memory_size c = (search refused-by-memory, refl)

pub returns-then-not-accepted : goal.returns-then-not-accepted
returns-then-not-accepted c = (search refused-by-file, refl)

pub returns : goal.returns
returns c = (search refused-by-blit, search rules)
