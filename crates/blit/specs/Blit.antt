-- Paper 01, "Jobs": "The blit called alone, with memory, register file and size, gives [its number] .. and the count"; and
-- paper 02, W12: a yes "exactly when some used channel (in a line, C) went round between two of its accesses in a blit
-- that was done".
use Rattle.std.specs.Prelude.{ℕ, Bool, false, List, eqb, length, if◌then◌else◌, Result, Ok, Err}
use Rattle.word.specs.Size.{height, width}
use Rattle.refusal.specs.declared.types.Refusal.{Refusal}
use Rattle.blit.specs.declared.types.Done.{Done}
use Rattle.blit.specs.declared.types.Told.{Told}
use Rattle.area.specs.Setup.{setup}
use Rattle.area.specs.Flow.{State, state, start}
use Rattle.area.specs.Rows.{area_blit}
use Rattle.line.specs.Setup.{line_setup}
use Rattle.line.specs.Dot.{first_dot}
use Rattle.line.specs.Line as lines
use Rattle.line.specs.Line.{begun, line_blit}
use Rattle.line.specs.Leave.{leave}
use Rattle.blit.specs.WriteBack.{write_back}
use Rattle.refusal.specs.Plan.{line_or_area}
use Rattle.refusal.specs.Refusal.{step_refusal, refusal, verdict_number}
use Rattle.round.specs.Round.{goes_round}

-- what a blit gives and leaves; round: whether a channel went round
pub record Outcome : Type 0 where
  pub number : ℕ
  pub stored : ℕ
  pub round : Bool
  pub memory : List ℕ
  pub file : List ℕ

-- the area blit, all rows done and the last word stored
unfoldable pub finished : (memory file : List ℕ) → (size : ℕ) → State
finished memory file size = area_blit (setup file) (width size) (height size) (state memory (start file))

-- the line, all dots done
unfoldable pub drawn : (memory file : List ℕ) → (size : ℕ) → lines.State
drawn memory file size = line_blit (line_setup file) (height size) (lines.state memory (begun (first_dot file)))

-- an area blit that is done, and a line that is
unfoldable pub area_done : (file : List ℕ) → (round : Bool) → State → Outcome
area_done file round end =
    record {
      number = 0;
      stored = end.flow.stored;
      round = round;
      memory = end.memory;
      file = write_back (setup file).uses end.flow file;
    }

unfoldable pub line_done : (file : List ℕ) → (round : Bool) → lines.State → Outcome
line_done file round end =
    record {
      number = 0;
      stored = end.drawn.stored;
      round = round;
      memory = end.memory;
      file = leave end.drawn file;
    }

-- a blit that is done: a line's or an area's
unfoldable pub done : (memory file : List ℕ) → (size : ℕ) → Outcome
done memory file size =
    line_or_area file (line_done file (goes_round file size) (drawn memory file size))
    (area_done file (goes_round file size) (finished memory file size))

-- a blit that is refused: nothing is stored, nothing went round, and nothing changes
unfoldable pub refused : (number : ℕ) → (memory file : List ℕ) → Outcome
refused number memory file = record { number = number; stored = 0; round = false; memory = memory; file = file }

-- a blit with the number of its refusal; 0 where it is done
unfoldable pub answered : (number : ℕ) → (memory file : List ℕ) → (size : ℕ) → Outcome
answered number memory file size =
    if eqb number 0 then done memory file size else
    refused number memory file

-- the blit of a job's step, and the blit called alone
unfoldable pub blit_step : (memory file : List ℕ) → (size : ℕ) → Outcome
blit_step memory file size = answered (step_refusal (length memory) file size) memory file size

unfoldable pub blit : (memory file : List ℕ) → (size : ℕ) → Outcome
blit memory file size = answered (refusal (length memory) file size) memory file size

-- the paper's count for each case of the answer, and its yes; its number is the refusal's, 0 where it is done
abbrev pub answer_stored : Result Done Refusal → ℕ
answer_stored (Ok done) = done.stored
answer_stored (Err why) = 0

abbrev pub answer_round : Result Done Refusal → Bool
answer_round (Ok done) = done.round
answer_round (Err why) = false

abbrev pub told : Result Done Refusal → Told
told answer = record { number = verdict_number answer; stored = answer_stored answer; round = answer_round answer }

-- an answer, and what memory and file hold as it is given
abbrev pub left : Result Done Refusal → (memory file : List ℕ) → Outcome
left answer memory file =
    record {
      number = verdict_number answer;
      stored = answer_stored answer;
      round = answer_round answer;
      memory = memory;
      file = file;
    }
