-- Paper 01, "Copper", and paper 02, W8: what one instruction does, and its number.
use Rattle.std.specs.Prelude.{ℕ, ◌+◌, List, eqb, length, get_or, set, if◌then◌else◌}
use Rattle.file.specs.File.{place, kept}
use Rattle.beam.specs.Satisfied.{satisfied}
use Rattle.beam.specs.Wait.{waited}
use Rattle.blit.specs.Blit.{blit_step}
use Rattle.instruction.specs.declared.types.Instruction.{Instruction}
use Rattle.instruction.specs.declared.types.Instruction.TheVariants.{Move, Wait, Skip}
use Rattle.instruction.specs.Instruction.{instruction}
use Rattle.instruction.specs.Permitted.{size_offset}
use Rattle.instruction.specs.Refusal.{instruction_refusal}

-- what the Copper finds: memory, register file, the beam's place, and the word of the next instruction
pub record Moment : Type 0 where
  pub memory : List ℕ
  pub file : List ℕ
  pub beam : ℕ
  pub word : ℕ

abbrev pub moment : (memory file : List ℕ) → (beam word : ℕ) → Moment
moment memory file beam word = record { memory = memory; file = file; beam = beam; word = word }

-- an instruction's number, 0 where it is done, and the moment after it
pub record Turn : Type 0 where
  pub number : ℕ
  pub moment : Moment

abbrev pub turn : (number : ℕ) → Moment → Turn
turn number after = record { number = number; moment = after }

-- a MOVE that is done: "MOVE and SKIP take it four positions on"
abbrev pub after_move : (memory file : List ℕ) → Moment → Moment
after_move memory file here = moment memory file (here.beam + 4) (here.word + 2)

-- "A MOVE to the size register runs the blit", which "counts as finished at once"
abbrev pub after_blit : (size : ℕ) → Moment → Moment
after_blit size here =
    after_move (blit_step here.memory here.file size).memory (blit_step here.memory here.file size).file here

-- any other register keeps its bits of the value
abbrev pub after_register : (place value : ℕ) → Moment → Moment
after_register place value here = after_move here.memory (set here.file place (kept place value)) here

-- the word after a SKIP: "An instruction passed over isn't counted", nor read or timed
unfoldable pub skipped : (first second beam word : ℕ) → ℕ
skipped first second beam word =
    if satisfied first second beam then word + 4 else
    word + 2

-- the moment after an instruction that is done: "WAIT six or to the first place after that where it is satisfied";
-- "SKIP compares where it starts."
unfoldable pub after_instruction : Instruction → Moment → Moment
after_instruction (Move offset value) here =
    if eqb offset size_offset then after_blit value here else
    after_register (place offset) value here
after_instruction (Wait first second) here =
    moment here.memory here.file (waited first second here.beam) (here.word + 2)
after_instruction (Skip first second) here =
    moment here.memory here.file (here.beam + 4) (skipped first second here.beam here.word)

-- an instruction with its number, 0 where it is done: "a refused instruction changes nothing"
unfoldable pub decided : (number : ℕ) → (after here : Moment) → Turn
decided number after here =
    if eqb number 0 then turn 0 after else
    turn number here

unfoldable pub instruction_effect : Instruction → Moment → Turn
instruction_effect found here =
    decided (instruction_refusal (length here.memory) here.file here.word found)
    (after_instruction found here) here

-- the instruction that stands in memory, as memory is then
unfoldable pub effect : Moment → Turn
effect here =
    instruction_effect (instruction (get_or here.memory here.word 0) (get_or here.memory (here.word + 1) 0)) here
