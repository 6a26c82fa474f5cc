-- Paper 02, W8: when an instruction is refused. "23 comes first, then 21, then 22, then the blit's own in their order."
-- One definition, a function of N, file, the word that the instruction stands at, and the instruction.
use Rattle.std.specs.Prelude.{ℕ, ◌+◌, Bool, false, not, List, [], ◌∷◌, eqb, leb, if◌then◌else◌}
use Rattle.word.specs.Choice.{Rule, ◌when◌, given}
use Rattle.refusal.specs.Refusal as blits
use Rattle.instruction.specs.declared.types.Instruction.{Instruction}
use Rattle.instruction.specs.declared.types.Instruction.TheVariants.{Move, Wait, Skip}
use Rattle.instruction.specs.declared.types.Refusal.{Refusal}
use Rattle.instruction.specs.Permitted.{permitted, size_offset, modelled}

-- "either word of an instruction at N or above, without going round"
unfoldable pub outside : (n word : ℕ) → Bool
outside n word = leb n (word + 1)

-- "forbidden offset"
unfoldable pub forbidden : (file : List ℕ) → Instruction → Bool
forbidden file (Move offset value) = not (permitted file offset)
forbidden file (Wait first second) = false
forbidden file (Skip first second) = false

-- "permitted offset we don't model"
unfoldable pub not_modelled : Instruction → Bool
not_modelled (Move offset value) = not (modelled offset)
not_modelled (Wait first second) = false
not_modelled (Skip first second) = false

-- "the blit's own in their order": "A MOVE to the size register runs the blit", and nothing else does
unfoldable pub own_rules : (n : ℕ) → (file : List ℕ) → Instruction → List Rule
own_rules n file (Move offset size) = if eqb offset size_offset then blits.blit_rules n file size else []
own_rules n file (Wait first second) = []
own_rules n file (Skip first second) = []

-- "23 comes first, then 21, then 22, then the blit's own"
abbrev pub instruction_rules : (n : ℕ) → (file : List ℕ) → (word : ℕ) → Instruction → List Rule
instruction_rules n file word found =
    23 when outside n word
    ∷ 21 when forbidden file found
    ∷ 22 when not_modelled found
    ∷ own_rules n file found

-- the number of an instruction; 0 where no rule applies
unfoldable pub instruction_refusal : (n : ℕ) → (file : List ℕ) → (word : ℕ) → Instruction → ℕ
instruction_refusal n file word found = given (instruction_rules n file word found)

-- the papers' number for each case: 1, 2 and those of a blit are the blit's own
abbrev pub refusal_number : Refusal → ℕ
refusal_number (Refusal.Blit why) = blits.refusal_number why
refusal_number Refusal.Forbidden = 21
refusal_number Refusal.NotModelled = 22
refusal_number Refusal.Outside = 23
