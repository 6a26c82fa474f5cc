-- The shift of nought on memory: a copy of one row leaves at D exactly the words that stood at A, unless D lies on a
-- word that A comes to two or more words later. One word later is fetched before the store, and is copied.
use Rattle.std.specs.Prelude.{ℕ, ◌+◌, ◌<◌, ◌≡◌, List, length, get_or}
use Rattle.word.specs.declared.types.Direction.{Direction}
use Rattle.word.specs.declared.types.Direction.TheVariants.{Ascending, Descending}
use Rattle.word.specs.declared.types.Pointer.{Pointer}
use Rattle.word.specs.Repeat.{repeated}
use Rattle.word.specs.Word.{SixteenBits}
use Rattle.word.specs.Pointer.{moved}
use Rattle.word.specs.Size.{height, width}
use Rattle.file.specs.Places.{first_mask, last_mask}
use Rattle.file.specs.File.{con0, con1}
use Rattle.area.specs.Flow.{start}
use Rattle.refusal.specs.Refusal.{refusal}
use Rattle.blit.specs.Blit.{blit}

-- BLTCON1 with no fill and no shift
abbrev pub plain : Direction → ℕ
plain Ascending = 0x0000
plain Descending = 0x0002

-- a register file that copies: use A and D, function F0, shift 0, no fill, both masks all ones
pub record Copies (direction : Direction) (file : List ℕ) : Type 0 where
  pub control0 : con0 file ≡ 0x09F0
  pub control1 : con1 file ≡ plain direction
  pub first : get_or file first_mask 0 ≡ 0xFFFF
  pub last : get_or file last_mask 0 ≡ 0xFFFF

-- the word number of a pointer moved i times
abbrev pub spot : Direction → (i : ℕ) → Pointer → ℕ
spot direction i pointer = (repeated (λ _. moved direction) i pointer).word

abbrev pub CopyOfOneRow : Type 0
CopyOfOneRow =
    (direction : Direction) (memory file : List ℕ) (size : ℕ)
    → SixteenBits memory
    → Copies direction file
    → height size ≡ 1
    → refusal (length memory) file size ≡ 0
    → ((i j : ℕ) → i < width size → j + 1 < i
    → spot direction i (start file).pointers.a ≡ spot direction j (start file).pointers.d → ⊥)
    → (i : ℕ) → i < width size
    → get_or (blit memory file size).memory (spot direction i (start file).pointers.d) 0
    ≡ get_or memory (spot direction i (start file).pointers.a) 0
