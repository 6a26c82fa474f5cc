-- `word::even::span_inside` meets its contract: a row's far end tells, ascending at the highest start, descending at the lowest.
use Rattle.word.proofs.EvenLaws.{SpanInside-when-ascending, SpanInside-when-descending, nothing-promised}
use Rattle.word.proofs.even.span_inside.Goals as goal

pub returns-then-n-highest : goal.returns-then-n-highest
returns-then-n-highest c = nothing-promised

pub returns-in-Ascending : goal.returns-in-Ascending
returns-in-Ascending c = search SpanInside-when-ascending

pub returns-else-n-highest : goal.returns-else-n-highest
returns-else-n-highest c = search SpanInside-when-descending
