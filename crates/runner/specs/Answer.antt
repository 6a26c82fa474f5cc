-- Paper 01, "Numbers given back", as paper 02 leaves it: the number and values for each case of an answer.
use Rattle.std.specs.Prelude.{ℕ, Bool, false, List, Ok, Err}
use Rattle.refusal.specs.Refusal as blits
use Rattle.blit.specs.Blit.{Outcome}
use Rattle.job.specs.Step as jobs
use Rattle.runner.specs.declared.types.Refusal.{Refusal}
use Rattle.runner.specs.declared.types.Told.{Told}
use Rattle.runner.specs.Types.{Taken, Answer}
use Rattle.runner.specs.Run.{machine, End, ended}

-- 1, 2 and those of a blit are the blit's own numbers; 4, 5 and 6 are the job's
abbrev pub refusal_number : Refusal → ℕ
refusal_number (Refusal.Blit why) = blits.refusal_number why
refusal_number Refusal.JobLength = 3
refusal_number (Refusal.Step why) = jobs.refusal_number why
refusal_number Refusal.StoreOutside = 10

-- a step's answer: number, count and yes
abbrev pub taken_number : Taken → ℕ
taken_number (Ok done) = 0
taken_number (Err why) = refusal_number why

abbrev pub taken_stored : Taken → ℕ
taken_stored (Ok done) = done.stored
taken_stored (Err why) = 0

abbrev pub taken_round : Taken → Bool
taken_round (Ok done) = done.round
taken_round (Err why) = false

-- a step's answer, and what memory and file hold as it is given
abbrev pub left_by_step : Taken → (memory file : List ℕ) → Outcome
left_by_step taken memory file =
    record {
      number = taken_number taken;
      stored = taken_stored taken;
      round = taken_round taken;
      memory = memory;
      file = file;
    }

-- a run's answer: number, place, count and yes
abbrev pub answer_number : Answer → ℕ
answer_number (Ok done) = 0
answer_number (Err stopped) = refusal_number stopped.why

abbrev pub answer_place : Answer → ℕ
answer_place (Ok done) = 0
answer_place (Err stopped) = stopped.place

abbrev pub answer_stored : Answer → ℕ
answer_stored (Ok done) = done.stored
answer_stored (Err stopped) = stopped.done.stored

abbrev pub answer_round : Answer → Bool
answer_round (Ok done) = done.round
answer_round (Err stopped) = stopped.done.round

abbrev pub told : Answer → Told
told answer =
    record {
      number = answer_number answer;
      place = answer_place answer;
      stored = answer_stored answer;
      round = answer_round answer;
    }

-- an answer, and what memory and file hold as it is given
abbrev pub left : Answer → (memory file : List ℕ) → End
left answer memory file =
    ended (answer_number answer) (answer_place answer) (machine memory file (answer_stored answer) (answer_round answer))
