-- Paper 01, "Numbers given back": the paper's number, place and length for each case; 4, 5 and 6 are the job's of an answer.
use Rattle.std.specs.Prelude.{ℕ, Bool, false, List, Ok, Err}
use Rattle.job.specs.Step as jobs
use Rattle.folder.specs.declared.types.Refusal.{Refusal}
use Rattle.folder.specs.declared.types.Told.{Told}
use Rattle.folder.specs.Types.{Answer}
use Rattle.folder.specs.Folding.{Folding}

abbrev pub refusal_number : Refusal → ℕ
refusal_number Refusal.MemorySize = 1
refusal_number Refusal.JobLength = 3
refusal_number (Refusal.Step why) = jobs.refusal_number why
refusal_number Refusal.TooLong = 11

abbrev pub answer_number : Answer → ℕ
answer_number (Ok done) = 0
answer_number (Err stopped) = refusal_number stopped.why

abbrev pub answer_place : Answer → ℕ
answer_place (Ok done) = 0
answer_place (Err stopped) = stopped.place

abbrev pub answer_long : Answer → ℕ
answer_long (Ok done) = done.length
answer_long (Err stopped) = 0

abbrev pub answer_round : Answer → Bool
answer_round (Ok done) = done.round
answer_round (Err stopped) = false

abbrev pub told : Answer → Told
told answer =
    record {
      number = answer_number answer;
      place = answer_place answer;
      length = answer_long answer;
      round = answer_round answer;
    }

-- an answer, and what the output run holds as it is given
abbrev pub left : Answer → (out : List ℕ) → Folding
left answer out =
    record {
      number = answer_number answer;
      place = answer_place answer;
      long = answer_long answer;
      round = answer_round answer;
      out = out;
    }
