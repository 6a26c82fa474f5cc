-- Paper 01, "Memory and registers": pointers and modulos.
-- A pointer's high and low half are kept bits only (high 2-0, low 15-1); the remainder by 262,144 bounds any other
-- number.
use Rattle.std.specs.Prelude.{ℕ, ◌+◌, ◌-◌, ◌*◌, ◌/◌, ◌%◌}
use Rattle.word.specs.declared.types.Direction.{Direction}
use Rattle.word.specs.declared.types.Direction.TheVariants.{Ascending, Descending}
use Rattle.word.specs.declared.types.Pointer.{Pointer}
use Rattle.word.specs.Repeat.{repeated}
use Rattle.word.specs.Word.{bit}

abbrev pub pointer_end : ℕ
pointer_end = 262144

-- "A pointer is (high × 65,536 + low) / 2, a word number below 262,144."
unfoldable pub pointer : (high low : ℕ) → Pointer
pointer high low = record { word = (high * 65536 + low) / 2 % pointer_end }

-- the halves of a pointer, as its registers hold them
abbrev pub high : Pointer → ℕ
high pointer = pointer.word / 32768 % 8

abbrev pub low : Pointer → ℕ
low pointer = pointer.word % 32768 * 2

-- "A pointer, moved once, is the pointer plus or minus one, modulo 262,144."
abbrev pub up : Pointer → Pointer
up pointer = record { word = (pointer.word + 1) % pointer_end }

abbrev pub down : Pointer → Pointer
down pointer = record { word = (pointer.word + (pointer_end - 1)) % pointer_end }

-- "A modulo is a two's complement byte count": half of it, modulo 262,144. A set bit 15 stands for -65,536 bytes in all
unfoldable pub half : (modulo : ℕ) → ℕ
half modulo = modulo / 2 % 32768 + bit modulo 15 * (pointer_end - 32768)

-- a number modulo 262,144 stands for one below 0 from here on
abbrev pub downward : ℕ
downward = 131072

-- "half of it is added or taken away, modulo 262,144"; words is that half
abbrev pub plus : (words : ℕ) → Pointer → Pointer
plus words pointer = record { word = (pointer.word + words % pointer_end) % pointer_end }

abbrev pub minus : (words : ℕ) → Pointer → Pointer
minus words pointer = record { word = (pointer.word + (pointer_end - words % pointer_end)) % pointer_end }

-- "After a word each used channel's pointer moves one up, or one down if descending."
unfoldable pub moved : Direction → Pointer → Pointer
moved Ascending pointer = up pointer
moved Descending pointer = down pointer

-- "After a row's last word the modulo is then added, or taken away if descending."
unfoldable pub passed : Direction → (words : ℕ) → Pointer → Pointer
passed Ascending words pointer = plus words pointer
passed Descending words pointer = minus words pointer

-- the pointer of a used channel after a row of so many words, and the modulo
unfoldable pub next_row : Direction → (width modulo : ℕ) → Pointer → Pointer
next_row direction width modulo pointer = passed direction modulo (repeated (λ _. moved direction) width pointer)
