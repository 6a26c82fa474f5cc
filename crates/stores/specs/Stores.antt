-- Paper 01, "Folding": a blit's "stores in the blit's order", as a list, without a memory; whether "every final word was
-- zero"; and "the final D pointer". The words are the blit's own. A blit that uses D alone fetches nothing, so that memory
-- has no part in them.
use Rattle.std.specs.Prelude.{ℕ, zero, suc, Bool, true, ◌&&◌, List, [], ◌∷◌, ◌++◌, eqb}
use Rattle.word.specs.declared.types.Pointer.{Pointer}
use Rattle.word.specs.Repeat.{repeated}
use Rattle.word.specs.Pointer.{next_row}
use Rattle.word.specs.Size.{height, width}
use Rattle.area.specs.declared.types.Setup.{Setup}
use Rattle.area.specs.Setup.{setup}
use Rattle.area.specs.Flow.{State, state, pointers, start}
use Rattle.area.specs.Rows.{finished_word, one_word, row_start, one_row}
use Rattle.stores.specs.declared.types.Store as declared

-- a word that is stored, and where it goes
abbrev pub Store : Type 0
Store = declared.Store

abbrev pub store : (to : Pointer) → (value : ℕ) → Store
store to value = record { to = to; value = value }

-- the stores of a row of which so many words remain
unfoldable pub row_stores : Setup → (width remaining : ℕ) → State → List Store
row_stores setup width zero now = []
row_stores setup width (suc remaining) now =
    store now.flow.pointers.d (finished_word setup width remaining now).word
    ∷ row_stores setup width remaining (one_word setup width remaining now)

-- the stores of so many rows
unfoldable pub blit_stores : Setup → (width remaining : ℕ) → State → List Store
blit_stores setup width zero now = []
blit_stores setup width (suc remaining) now =
    row_stores setup width width (row_start setup now)
    ++ blit_stores setup width remaining (one_row setup width now)

-- the stores of a blit
unfoldable pub stores : (file : List ℕ) → (size : ℕ) → List Store
stores file size = blit_stores (setup file) (width size) (height size) (state [] (start file))

-- "every final word was zero"
unfoldable pub all_zero : List Store → Bool
all_zero [] = true
all_zero (one ∷ rest) = eqb one.value 0 && all_zero rest

-- "the final D pointer", by the pointer's own moves from row to row
unfoldable pub final_d : (file : List ℕ) → (size : ℕ) → Pointer
final_d file size =
    repeated (λ _. next_row (setup file).direction (width size) (setup file).modulos.d) (height size) (pointers file).d
