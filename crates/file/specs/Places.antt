-- Paper 01, "Memory and registers", and paper 02, W7: "The file grows from 20 words to 53: the first 19 as they are, then
-- COPCON .., the 32 colours .., and the zero flag last." The length of a register file, and its places by name.
use Rattle.std.specs.Prelude.{ℕ}

abbrev pub file_length : ℕ
file_length = 53

-- "the first 19": the Blitter's registers
abbrev pub blitter_length : ℕ
blitter_length = 19

-- of a pointer, the place of its high half, which its low half follows
abbrev pub control0 : ℕ
control0 = 0

abbrev pub control1 : ℕ
control1 = 1

abbrev pub first_mask : ℕ
first_mask = 2

abbrev pub last_mask : ℕ
last_mask = 3

abbrev pub pointer_c : ℕ
pointer_c = 4

abbrev pub pointer_b : ℕ
pointer_b = 6

abbrev pub pointer_a : ℕ
pointer_a = 8

abbrev pub pointer_d : ℕ
pointer_d = 10

abbrev pub modulo_c : ℕ
modulo_c = 12

abbrev pub modulo_b : ℕ
modulo_b = 13

abbrev pub modulo_a : ℕ
modulo_a = 14

abbrev pub modulo_d : ℕ
modulo_d = 15

abbrev pub source_c : ℕ
source_c = 16

abbrev pub source_b : ℕ
source_b = 17

abbrev pub source_a : ℕ
source_a = 18

-- "then COPCON"
abbrev pub copcon : ℕ
copcon = 19

-- "the 32 colours": how many, and the place of the first
abbrev pub colour_count : ℕ
colour_count = 32

abbrev pub colour0 : ℕ
colour0 = 20

-- "and the zero flag last"
abbrev pub flag : ℕ
flag = 52
