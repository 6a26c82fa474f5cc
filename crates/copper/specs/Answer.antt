-- Paper 02, W8: the number and values for each case of a frame's answer.
use Rattle.std.specs.Prelude.{ℕ, List}
use Rattle.instruction.specs.Effect.{moment}
use Rattle.copper.specs.declared.types.Answer.{Answer}
use Rattle.copper.specs.Frame.{Frame, stopped}
pub use Rattle.copper.specs.Why.{why_number, answer_number}

-- an answer, and what memory and file hold as it is given
abbrev pub left : Answer → (memory file : List ℕ) → Frame
left answer memory file =
    stopped (why_number answer.why) (answer_number answer.why) answer.done
    (moment memory file answer.here.beam answer.here.word)
