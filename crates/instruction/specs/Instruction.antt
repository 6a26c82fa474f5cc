-- Paper 01, "Copper": "a first word that is even is a MOVE of the second to the offset in bits 8-1; odd, a WAIT, or a
-- SKIP if the second is odd too."
use Rattle.std.specs.Prelude.{ℕ, ◌%◌, eqb, if◌then◌else◌}
use Rattle.std.specs.Int.Bits.{bit_and}
use Rattle.instruction.specs.declared.types.Instruction.{Instruction}
use Rattle.instruction.specs.declared.types.Instruction.TheVariants.{Move, Wait, Skip}

-- "the offset in bits 8-1"
abbrev pub offset : (first : ℕ) → ℕ
offset first = bit_and first 0x01FE

unfoldable pub instruction : (first second : ℕ) → Instruction
instruction first second =
    if eqb (first % 2) 0 then Move (offset first) second else
    if eqb (second % 2) 0 then Wait first second else
    Skip first second
