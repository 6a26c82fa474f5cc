-- Paper 02, W9: what the call gives, and the lent run as it leaves it.
use Rattle.std.specs.Prelude.{ℕ, ⊤, Result, Ok, Err, List, ◌++◌, eqb, drop, if◌then◌else◌}
use Rattle.picture.specs.declared.types.Refusal.{Refusal}
use Rattle.picture.specs.declared.types.Refusal.TheVariants.{MemorySize, RegisterFile, BadPlayfield, TooShort, Leaves}
use Rattle.playfield.specs.Playfield.{Playfield}
use Rattle.picture.specs.Line.{line_pixels, shown_line}
use Rattle.picture.specs.Refusal.{refusal}

pub record Picture : Type 0 where
  pub number : ℕ
  pub out : List ℕ

abbrev pub ended : (number : ℕ) → (out : List ℕ) → Picture
ended number out = record { number = number; out = out }

-- "Only the words of the line are written": what the run holds behind the line's pixels stays
unfoldable pub with_line : (memory file : List ℕ) → Playfield → (out : List ℕ) → List ℕ
with_line memory file field out = shown_line memory file field ++ drop (line_pixels field) out

-- done, the line stands in front of the run; refused, "nothing written"
unfoldable pub picture : (memory file : List ℕ) → Playfield → (out : List ℕ) → Picture
picture memory file field out =
    if eqb (refusal memory file field out) 0 then ended 0 (with_line memory file field out) else
    ended (refusal memory file field out) out

-- done, or refused
abbrev pub Answer : Type 0
Answer = Result ⊤ Refusal

-- the paper's number for each case of the answer
abbrev pub answer_number : Answer → ℕ
answer_number (Ok _) = 0
answer_number (Err MemorySize) = 1
answer_number (Err RegisterFile) = 2
answer_number (Err BadPlayfield) = 24
answer_number (Err TooShort) = 25
answer_number (Err Leaves) = 10

-- an answer, and what the run holds as it is given
abbrev pub left : Answer → (out : List ℕ) → Picture
left answer out = ended (answer_number answer) out
