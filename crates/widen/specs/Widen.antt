-- Paper 02, W7: "A small call turns an old file into a new one with black colours and COPCON 0, and leaves its target
-- unchanged when it refuses."
use Rattle.std.specs.Prelude.{ℕ, ⊤, not, Result, Ok, Err, List, [], ◌∷◌, ◌++◌, eqb, length, get_or, take, replicate, if◌then◌else◌}
use Rattle.word.specs.Choice.{Rule, ◌when◌, given}
use Rattle.file.specs.Places.{file_length, blitter_length, colour_count}
use Rattle.widen.specs.declared.types.Refusal.{Refusal}
use Rattle.widen.specs.declared.types.Refusal.TheVariants.{OldFile, TargetLength}
use Rattle.widen.specs.Old.{old_flag, old_accepted}

abbrev pub black : ℕ
black = 0x000

-- "the first 19 as they are, then COPCON .., the 32 colours .., and the zero flag last"
unfoldable pub widened : (old : List ℕ) → List ℕ
widened old =
    take blitter_length old
    ++ (0 ∷ (replicate colour_count black ++ (get_or old old_flag 0 ∷ [])))

-- "the new call gives 2 by the old rule for the old file, and then 20 if its target isn't 53 words"
abbrev pub rules : (old target : List ℕ) → List Rule
rules old target =
    2 when not (old_accepted old)
    ∷ 20 when not (eqb (length target) file_length)
    ∷ []

unfoldable pub refusal : (old target : List ℕ) → ℕ
refusal old target = given (rules old target)

-- what a widening gives and leaves
pub record Widening : Type 0 where
  pub number : ℕ
  pub target : List ℕ

abbrev pub ended : (number : ℕ) → (target : List ℕ) → Widening
ended number target = record { number = number; target = target }

unfoldable pub widening : (old target : List ℕ) → Widening
widening old target =
    if eqb (refusal old target) 0 then ended 0 (widened old) else
    ended (refusal old target) target

-- done, or refused
abbrev pub Answer : Type 0
Answer = Result ⊤ Refusal

-- the paper's number for each case of the answer
abbrev pub answer_number : Answer → ℕ
answer_number (Ok _) = 0
answer_number (Err OldFile) = 2
answer_number (Err TargetLength) = 20

-- an answer, and what the target holds as it is given
abbrev pub left : Answer → (target : List ℕ) → Widening
left answer target = ended (answer_number answer) target
