-- The number and values for each case of an instruction's answer.
use Rattle.std.specs.Prelude.{ℕ, List, Result, Ok, Err}
use Rattle.instruction.specs.declared.types.Position.{Position}
use Rattle.instruction.specs.declared.types.Refusal.{Refusal}
use Rattle.instruction.specs.Refusal.{refusal_number}
use Rattle.instruction.specs.Effect.{moment, Turn, turn}

-- what an instruction answers, and what memory and file hold as it is given; a refused one leaves beam and word
abbrev pub left : Result Position Refusal → (here : Position) → (memory file : List ℕ) → Turn
left (Ok next) here memory file = turn 0 (moment memory file next.beam next.word)
left (Err why) here memory file = turn (refusal_number why) (moment memory file here.beam here.word)
