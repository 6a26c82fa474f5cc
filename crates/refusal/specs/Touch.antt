-- Paper 01, "Numbers given back": "any word a used channel of the blit would touch", and paper 02's W3 of a line.
-- The words that are really fetched or stored; a pointer that only passes a word doesn't touch it.
use Rattle.std.specs.Prelude.{ℕ, zero, suc, Bool, false, ◌&&◌, ◌||◌, List, [], ◌∷◌, ◌++◌, map, eqb, leb}
use Rattle.word.specs.declared.types.Direction.{Direction}
use Rattle.word.specs.declared.types.Pointer.{Pointer}
use Rattle.word.specs.Pointer.{moved, next_row}
use Rattle.line.specs.declared.types.Line.{Line}
use Rattle.line.specs.declared.types.Spot.{Spot}
use Rattle.line.specs.declared.types.Dot.{Dot}
use Rattle.line.specs.Line.{spots}

-- the word numbers of a row, by the pointer's own moves
unfoldable pub row_touches : Direction → (width : ℕ) → Pointer → List ℕ
row_touches direction zero pointer = []
row_touches direction (suc remaining) pointer = pointer.word ∷ row_touches direction remaining (moved direction pointer)

-- the word numbers of all rows
unfoldable pub touches : Direction → (width modulo rows : ℕ) → Pointer → List ℕ
touches direction width modulo zero pointer = []
touches direction width modulo (suc remaining) pointer =
    row_touches direction width pointer ++ touches direction width modulo remaining (next_row direction width modulo pointer)

-- the word numbers of a line, "D going where C goes": C's pointer at each dot, stored or not
abbrev pub line_touches : Line → (dots : ℕ) → (first : Dot) → List ℕ
line_touches line dots first = map (λ (spot : Spot). spot.at.word) (spots line dots first)

-- one of the words "lies at N or above"
unfoldable pub leaves : (n : ℕ) → List ℕ → Bool
leaves n [] = false
leaves n (word ∷ rest) = leb n word || leaves n rest

-- one of the words is this one
unfoldable pub among : (word : ℕ) → List ℕ → Bool
among word [] = false
among word (touched ∷ rest) = eqb touched word || among word rest

-- a used channel leaves memory of n words
unfoldable pub channel_leaves : (n : ℕ) → Direction → (used : Bool) → (width modulo rows : ℕ) → Pointer → Bool
channel_leaves n direction used width modulo rows pointer =
    used && leaves n (touches direction width modulo rows pointer)
