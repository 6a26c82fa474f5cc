-- Paper 02, W3, of a line that is called alone: which words it changes, how many it stores, and which registers it changes.
use Rattle.std.specs.Prelude.{ℕ, ◌+◌, ◌≤◌, ◌≡◌, Bool, true, false, List, [], ◌∷◌, length, get_or}
use Rattle.word.specs.Size.{height}
use Rattle.word.specs.Control.{line}
use Rattle.file.specs.File.{con1}
use Rattle.file.specs.Places.{pointer_a, pointer_c, pointer_d, flag}
use Rattle.line.specs.Setup.{sing, line_setup}
use Rattle.line.specs.Dot.{first_dot}
use Rattle.refusal.specs.Touch.{line_touches, among}
use Rattle.refusal.specs.Refusal.{refusal}
use Rattle.blit.specs.Blit.{blit}

-- it changes only words that its C pointer comes to
abbrev pub OnlyDotsChange : Type 0
OnlyDotsChange =
    (memory file : List ℕ) (size word : ℕ)
    → line (con1 file) ≡ true
    → among word (line_touches (line_setup file) (height size) (first_dot file)) ≡ false
    → get_or (blit memory file size).memory word 0 ≡ get_or memory word 0

-- without SING it stores a word a row, with it at least one, for the first dot is always stored, and at most so many
pub record Counted (singing : Bool) (rows stored : ℕ) : Type 0 where
  pub all : singing ≡ false → stored ≡ rows
  pub some : 1 ≤ stored
  pub most : stored ≤ rows

abbrev pub AWordARow : Type 0
AWordARow =
    (memory file : List ℕ) (size : ℕ)
    → line (con1 file) ≡ true
    → refusal (length memory) file size ≡ 0
    → Counted (sing (con1 file)) (height size) (blit memory file size).stored

-- the registers that W3 names, and the flag: A's low half, C's and D's pointers
abbrev pub named_places : List ℕ
named_places = (pointer_a + 1) ∷ pointer_c ∷ (pointer_c + 1) ∷ pointer_d ∷ (pointer_d + 1) ∷ flag ∷ []

-- "every other register is as before"
abbrev pub OthersAsBefore : Type 0
OthersAsBefore =
    (memory file : List ℕ) (size place : ℕ)
    → line (con1 file) ≡ true
    → among place named_places ≡ false
    → get_or (blit memory file size).file place 0 ≡ get_or file place 0
