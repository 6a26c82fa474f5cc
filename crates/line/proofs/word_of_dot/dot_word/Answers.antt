-- `line::word_of_dot::dot_word` meets its contract: A, the texture and C by the logic function.
use Rattle.line.proofs.WalkLaws.{dot_word-when-set, dot_word-when-clear}
use Rattle.line.proofs.word_of_dot.dot_word.Goals as goal

pub returns-then-is_set : goal.returns-then-is_set
returns-then-is_set c = search dot_word-when-set

pub returns : goal.returns
returns c = search dot_word-when-clear
