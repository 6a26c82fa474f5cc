-- Paper 01, "Memory and registers", with paper 02's W7: a register file is "a lent run of exactly" 53 "16-bit words, in this
-- order".
use Rattle.std.specs.Prelude.{ℕ, zero, suc, ◌+◌, Bool, ◌&&◌, List, [], ◌∷◌, ◌++◌, map, eqb, ltb, length, get_or, if◌then◌else◌}
use Rattle.std.specs.Int.Bits.{bit_and}
use Rattle.word.specs.Choice.{every}
use Rattle.file.specs.Places.{control0, control1, colour_count, flag, file_length}

pub record Register : Type 0 where
  pub offset : ℕ
  pub kept : ℕ

infix 70 ◌keeps◌
abbrev pub ◌keeps◌ : (offset kept : ℕ) → Register
offset keeps kept = record { offset = offset; kept = kept }

-- paper 01's table, the Blitter's registers: the offset of each and its kept bits
abbrev pub blitter_registers : List Register
blitter_registers =
    -- BLTCON0, BLTCON1, BLTAFWM, BLTALWM: all
    0x040 keeps 0xFFFF
    ∷ 0x042 keeps 0xFFFF
    ∷ 0x044 keeps 0xFFFF
    ∷ 0x046 keeps 0xFFFF
    -- pointer high and low of C, B, A, D: "high 2-0, low 15-1"
    ∷ 0x048 keeps 0x0007
    ∷ 0x04A keeps 0xFFFE
    ∷ 0x04C keeps 0x0007
    ∷ 0x04E keeps 0xFFFE
    ∷ 0x050 keeps 0x0007
    ∷ 0x052 keeps 0xFFFE
    ∷ 0x054 keeps 0x0007
    ∷ 0x056 keeps 0xFFFE
    -- modulo of C, B, A, D: "15-1"
    ∷ 0x060 keeps 0xFFFE
    ∷ 0x062 keeps 0xFFFE
    ∷ 0x064 keeps 0xFFFE
    ∷ 0x066 keeps 0xFFFE
    -- data of C, B, A: all
    ∷ 0x070 keeps 0xFFFF
    ∷ 0x072 keeps 0xFFFF
    ∷ 0x074 keeps 0xFFFF
    ∷ []

-- so many colours from an offset on: "(180 to 1BE, bits 11-0 kept)"
abbrev pub colours : (offset many : ℕ) → List Register
colours offset zero = []
colours offset (suc many) = offset keeps 0x0FFF ∷ colours (offset + 2) many

-- "then COPCON (offset 02E, bit 1 kept), the 32 colours"
abbrev pub screen_registers : List Register
screen_registers = 0x02E keeps 0x0002 ∷ colours 0x180 colour_count

-- a register's place here is its place in the file
unfoldable pub registers : List Register
registers = blitter_registers ++ screen_registers

-- the zero flag stands last, has no offset, and is "0 or 1"
abbrev pub flag_kept : ℕ
flag_kept = 0x0001

-- the place of the first register with an offset; the list's length where none has it
unfoldable pub place_in : List Register → (offset : ℕ) → ℕ
place_in [] offset = 0
place_in (register ∷ rest) offset =
    if eqb register.offset offset then 0 else
    suc (place_in rest offset)

-- the place of the register with an offset; where none has it the flag's, which no offset reaches
unfoldable pub place : (offset : ℕ) → ℕ
place offset = place_in registers offset

-- an offset of the table
unfoldable pub is_register : (offset : ℕ) → Bool
is_register offset = ltb (place offset) flag

-- the kept bits by place
unfoldable pub kept_bits : List ℕ
kept_bits = map (λ (register : Register). register.kept) registers ++ (flag_kept ∷ [])

-- "Writing a register drops the bits not kept."
unfoldable pub kept : (place value : ℕ) → ℕ
kept place value = bit_and value (get_or kept_bits place 0)

-- no bit is set at a place that isn't kept there
unfoldable pub kept_at : (file : List ℕ) → (place : ℕ) → Bool
kept_at file place = eqb (kept place (get_or file place 0)) (get_or file place 0)

-- number 2 is given for a file not of 53 words, or with "a bit set that isn't kept"
unfoldable pub accepted : (file : List ℕ) → Bool
accepted file = eqb (length file) file_length && every (kept_at file) file_length

-- its BLTCON0 and BLTCON1
abbrev pub con0 : (file : List ℕ) → ℕ
con0 file = get_or file control0 0

abbrev pub con1 : (file : List ℕ) → ℕ
con1 file = get_or file control1 0
