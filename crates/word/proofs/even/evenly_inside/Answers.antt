-- `word::even::evenly_inside` meets its contract: a column in whole memory, or rows whose first and last start in one span.
use Rattle.word.proofs.EvenLaws.{RowsInside-of-columns, RowsInside-upward, RowsInside-downward, nothing-promised}
use Rattle.word.proofs.Base.{rules}
use Rattle.word.proofs.even.evenly_inside.Goals as goal

pub returns-then-n-width : goal.returns-then-n-width
returns-then-n-width c = λ _. search (rules, RowsInside-of-columns)

pub returns-then-rows-lt1 : goal.returns-then-rows-lt1
returns-then-rows-lt1 c = nothing-promised

pub returns-then-rows-gt1024 : goal.returns-then-rows-gt1024
returns-then-rows-gt1024 c = nothing-promised

-- the distance has its place, so that a wrong one is refused at it
pub returns-then-words-lt-DOWNWARD : goal.returns-then-words-lt-DOWNWARD
returns-then-words-lt-DOWNWARD c = RowsInside-upward _ _ _ _ _ _ _ _ _ _ (search rules) (search rules) (search rules) (search rules) (search rules) (search rules)
    c.distance-far.ensures.0
    c.span_inside.ensures

pub returns-then-start-far : goal.returns-then-start-far
returns-then-start-far c = nothing-promised

pub returns : goal.returns
returns c = search (rules, RowsInside-downward, c.span_inside-2.ensures)
