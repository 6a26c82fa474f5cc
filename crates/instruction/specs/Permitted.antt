-- Paper 02, W8: "Offsets from 080 on are always permitted, 040 to 07E only with the danger bit, and below 040 never."
use Rattle.std.specs.Prelude.{ℕ, ◌/◌, ◌%◌, Bool, ◌&&◌, ◌||◌, List, eqb, leb, get_or}
use Rattle.file.specs.Places.{copcon}
use Rattle.file.specs.File.{is_register}

-- the danger bit: bit 1 of COPCON
unfoldable pub danger : (file : List ℕ) → Bool
danger file = eqb (get_or file copcon 0 / 2 % 2) 1

unfoldable pub permitted : (file : List ℕ) → (offset : ℕ) → Bool
permitted file offset = leb 0x080 offset || (leb 0x040 offset && danger file)

-- "the size register"
abbrev pub size_offset : ℕ
size_offset = 0x058

-- an offset that we model: the size register's, or one of the register file's
unfoldable pub modelled : (offset : ℕ) → Bool
modelled offset = eqb offset size_offset || is_register offset
