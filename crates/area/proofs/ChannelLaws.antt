-- Laws of single channels through a word, a row and all rows: where a used pointer goes, and what memory D changes.
use Rattle.word.proofs.Base.{◌≡◌, refl, ap, ◌∙◌, ℕ, zero, suc, Bool, true, false, set}
use Rattle.word.specs.declared.types.Direction.{Direction}
use Rattle.word.specs.declared.types.Pointer.{Pointer}
use Rattle.word.specs.Repeat.{repeated}
use Rattle.word.specs.Pointer.{moved, passed}
use Rattle.word.proofs.RepeatLaws.{repeated-keeps}
use Rattle.area.specs.declared.types.Setup.{Setup}
use Rattle.area.specs.Flow.{State}
use Rattle.area.specs.Fetch.{fetch}
use Rattle.area.specs.Finish.{finish}
use Rattle.area.specs.Store.{wait, store_pending}
use Rattle.area.specs.Move.{stepped, move_on, turned, row_end}
use Rattle.area.specs.Rows.{finished_word, stored_before, one_word, words, row_start, one_row, rows}
use Rattle.area.proofs.StoreLaws.{memory_with-of-used, memory_with-of-unused}

stepped-of-used : (direction : Direction) (used : Bool) (pointer : Pointer) → used ≡ true → stepped direction used pointer ≡ moved direction pointer
unfolding stepped
stepped-of-used direction used pointer uses = rw uses

turned-of-used : (direction : Direction) (used : Bool) (modulo : ℕ) (pointer : Pointer) → used ≡ true
    → turned direction used modulo pointer ≡ passed direction modulo pointer
unfolding turned
turned-of-used direction used modulo pointer uses = rw uses

-- memory with the pending word, after a word
pub one_word-stores : (setup : Setup) (width remaining : ℕ) (now : State) → setup.uses.d ≡ true
    → (store_pending (one_word setup width remaining now)).memory
    ≡ set (store_pending now).memory now.flow.pointers.d.word (finished_word setup width remaining now).word
unfolding one_word stored_before store_pending wait move_on finished_word finish fetch
one_word-stores setup width remaining now uses =
    memory_with-of-used setup.uses.d now.flow.pointers.d.word (finished_word setup width remaining now).word (store_pending now).memory uses

one_word-without-d : (setup : Setup) (width remaining : ℕ) (now : State) → setup.uses.d ≡ false
    → (store_pending (one_word setup width remaining now)).memory ≡ (store_pending now).memory
unfolding one_word stored_before store_pending wait move_on finished_word finish fetch
one_word-without-d setup width remaining now idle =
    memory_with-of-unused setup.uses.d now.flow.pointers.d.word (finished_word setup width remaining now).word (store_pending now).memory idle

pub one_word-moves-d : (setup : Setup) (width remaining : ℕ) (now : State) → setup.uses.d ≡ true
    → (one_word setup width remaining now).flow.pointers.d ≡ moved setup.direction now.flow.pointers.d
unfolding one_word stored_before store_pending wait move_on finished_word finish fetch
one_word-moves-d setup width remaining now uses = stepped-of-used setup.direction setup.uses.d now.flow.pointers.d uses

-- D's pointer through a row's words, and to the next row
pub words-move-d : (setup : Setup) (width remaining : ℕ) (now : State) → setup.uses.d ≡ true
    → (words setup width remaining now).flow.pointers.d ≡ repeated (λ _. moved setup.direction) remaining now.flow.pointers.d
unfolding repeated
words-move-d setup width zero now uses = refl
words-move-d setup width (suc remaining) now uses =
    words-move-d setup width remaining (one_word setup width remaining now) uses
    ∙ ap (repeated (λ _. moved setup.direction) remaining) (one_word-moves-d setup width remaining now uses)

pub one_row-moves-d : (setup : Setup) (width : ℕ) (now : State) → setup.uses.d ≡ true
    → (one_row setup width now).flow.pointers.d
    ≡ passed setup.direction setup.modulos.d (repeated (λ _. moved setup.direction) width now.flow.pointers.d)
unfolding one_row row_end row_start
one_row-moves-d setup width now uses =
    turned-of-used setup.direction setup.uses.d setup.modulos.d (words setup width width (row_start setup now)).flow.pointers.d uses
    ∙ ap (passed setup.direction setup.modulos.d) (words-move-d setup width width (row_start setup now) uses)

-- without D no memory changes
pub rows-without-d : (setup : Setup) (width remaining : ℕ) (now : State) → setup.uses.d ≡ false
    → (store_pending (rows setup width remaining now)).memory ≡ (store_pending now).memory
unfolding one_row row_start row_end store_pending
rows-without-d setup width remaining now idle =
    repeated-keeps (λ _. one_row setup width) (λ (end : State). (store_pending end).memory)
    (λ _ here.
    repeated-keeps (one_word setup width) (λ (end : State). (store_pending end).memory) (λ k before. one_word-without-d setup width k before idle) width (row_start setup here))
    remaining now
