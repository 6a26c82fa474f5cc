-- Paper 02, W8: "Run a kiosk's list from a given word of chip memory for one frame". "The caller lends a number of
-- instructions. The answer tells why it stopped (end of frame, else number used up, else refusal), how many were done,
-- and the word of the next or the refused one."
use Rattle.std.specs.Prelude.{ℕ, zero, suc, Bool, not, List, [], ◌∷◌, eqb, leb, length, if◌then◌else◌}
use Rattle.word.specs.Choice.{Rule, ◌when◌, given}
use Rattle.file.specs.File.{accepted}
use Rattle.beam.specs.Beam.{frame_end}
use Rattle.word.specs.Memory.{memory_size}
use Rattle.instruction.specs.Effect.{Moment, moment, effect}

-- why a frame stopped
abbrev pub end_of_frame : ℕ
end_of_frame = 0

abbrev pub used_up : ℕ
used_up = 1

abbrev pub refusal : ℕ
refusal = 2

-- why it stopped, the refusal's number (0 unless refused), how many were done, and the moment at which it stands
pub record Frame : Type 0 where
  pub why : ℕ
  pub number : ℕ
  pub done : ℕ
  pub moment : Moment

abbrev pub stopped : (why number done : ℕ) → Moment → Frame
stopped why number done here = record { why = why; number = number; done = done; moment = here }

-- the beam has left the frame
unfoldable pub over : Moment → Bool
over here = leb frame_end here.beam

-- so many more instructions lent, after so many done: before each one "end of frame, else number used up, else refusal"
unfoldable pub onward : (lent done : ℕ) → Moment → Frame
onward zero done here =
    if over here then stopped end_of_frame 0 done here else
    stopped used_up 0 done here
onward (suc lent) done here =
    if over here then stopped end_of_frame 0 done here else
    if eqb (effect here).number 0 then onward lent (suc done) (effect here).moment else
    stopped refusal (effect here).number done here

-- "1 and 2 as the runner, before any instruction"
abbrev pub start_rules : (memory file : List ℕ) → List Rule
start_rules memory file =
    1 when memory_size (length memory)
    ∷ 2 when not (accepted file)
    ∷ []

unfoldable pub start_refusal : (memory file : List ℕ) → ℕ
start_refusal memory file = given (start_rules memory file)

-- the rest of a frame from a place of the beam on; 1 and 2 have word 0
unfoldable pub frame_from : (memory file : List ℕ) → (beam start lent : ℕ) → Frame
frame_from memory file beam start lent =
    if eqb (start_refusal memory file) 0 then onward lent 0 (moment memory file beam start) else
    stopped refusal (start_refusal memory file) 0 (moment memory file beam 0)

-- "The beam starts at line 0, position 0."
abbrev pub frame : (memory file : List ℕ) → (start lent : ℕ) → Frame
frame memory file start lent = frame_from memory file 0 start lent

-- "The answer tells why it stopped .., how many were done, and the word of the next or the refused one"; with the
-- refusal's number, and what memory and register file hold
pub record Told : Type 0 where
  pub why : ℕ
  pub number : ℕ
  pub done : ℕ
  pub word : ℕ
  pub memory : List ℕ
  pub file : List ℕ

abbrev pub told : Frame → Told
told end =
    record {
      why = end.why;
      number = end.number;
      done = end.done;
      word = end.moment.word;
      memory = end.moment.memory;
      file = end.moment.file;
    }
