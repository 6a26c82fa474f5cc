-- Paper 01, "The area blit": "Words go row by row." Paper 02, W2: the order of fetches and stores.
use Rattle.std.specs.Prelude.{ℕ, ◌+◌, eqb}
use Rattle.word.specs.Repeat.{repeated}
use Rattle.area.specs.declared.types.Setup.{Setup}
use Rattle.area.specs.Flow.{State, state}
use Rattle.area.specs.With.{with_carry}
use Rattle.area.specs.Fetch.{fetch}
use Rattle.area.specs.Finish.{finish}
use Rattle.area.specs.Store.{wait, store_pending}
use Rattle.area.specs.Move.{move_on, row_end}
use Rattle.area.specs.declared.types.Finished.{Finished}

-- the word of a row of width words after which so many are left: the first has all but itself left, the last none
unfoldable pub finished_word : Setup → (width remaining : ℕ) → State → Finished
finished_word setup width remaining now =
    finish setup (eqb (remaining + 1) width) (eqb remaining 0) (fetch setup.uses now.memory now.flow)

-- "the result of a word is stored only after the sources of the next word have been fetched": this word's sources are
-- fetched, then the word before it is stored. The order is said here and nowhere else.
unfoldable pub stored_before : Setup → (width remaining : ℕ) → State → State
stored_before setup width remaining now = store_pending (state now.memory (finished_word setup width remaining now).flow)

-- this word waits in its turn, and the pointers move on
unfoldable pub one_word : Setup → (width remaining : ℕ) → State → State
one_word setup width remaining now =
    state (stored_before setup width remaining now).memory
    (move_on setup.direction setup.uses
    (wait setup.uses.d (finished_word setup width remaining now).word (stored_before setup width remaining now).flow))

-- the words of a row of which so many are left
abbrev pub words : Setup → (width remaining : ℕ) → State → State
words setup width remaining now = repeated (one_word setup width) remaining now

-- "Fill runs per row .. its carry starting at carry-in."
unfoldable pub row_start : Setup → State → State
row_start setup now = state now.memory (with_carry setup.carry now.flow)

unfoldable pub one_row : Setup → (width : ℕ) → State → State
one_row setup width now =
    state (words setup width width (row_start setup now)).memory
    (row_end setup.direction setup.uses setup.modulos (words setup width width (row_start setup now)).flow)

-- the rows of which so many are left
abbrev pub rows : Setup → (width remaining : ℕ) → State → State
rows setup width remaining now = repeated (λ _. one_row setup width) remaining now

-- "This holds across rows; the last result is stored at the end."
unfoldable pub area_blit : Setup → (width height : ℕ) → State → State
area_blit setup width height now = store_pending (rows setup width height now)
