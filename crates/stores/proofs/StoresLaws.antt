-- Laws of the list of a blit's stores: how many there are, and that D's pointer and the flag come of it.
use Rattle.word.proofs.Base.{◌≡◌, refl, sym, ap, ◌∙◌, ℕ, zero, suc, ◌*◌, ◌<◌, ◌≤◌, suc-mul, arith, Bool, true}
use Rattle.word.proofs.Base.{false, ◌&&◌, eqb, List, [], ◌∷◌, ◌++◌, length, length-append}
use Rattle.word.specs.declared.types.Pointer.{Pointer}
use Rattle.word.specs.Repeat.{repeated}
use Rattle.word.specs.Pointer.{pointer_end, next_row}
use Rattle.word.specs.Size.{height, width}
use Rattle.word.proofs.SizeLaws.{width-le}
use Rattle.file.specs.Places.{pointer_d}
use Rattle.area.specs.declared.types.Setup.{Setup}
use Rattle.area.specs.Types.{Pointers}
use Rattle.area.specs.Setup.{setup}
use Rattle.area.specs.Flow.{State, state, pointers, start}
use Rattle.area.specs.Fetch.{fetch}
use Rattle.area.specs.Finish.{finish}
use Rattle.area.specs.Store.{wait, store_pending}
use Rattle.area.specs.Move.{move_on, row_end}
use Rattle.area.specs.Rows.{finished_word, stored_before, one_word, words, row_start, one_row, rows}
use Rattle.area.proofs.ChannelLaws.{one_row-moves-d}
use Rattle.file.proofs.PointersLaws.{pointer_at-lt}
use Rattle.stores.specs.Stores.{Store, row_stores, blit_stores, stores, all_zero, final_d}

pub row_stores-length : (setup : Setup) (width remaining : ℕ) (now : State) → length (row_stores setup width remaining now) ≡ remaining
unfolding row_stores
row_stores-length setup width zero now = refl
row_stores-length setup width (suc remaining) now =
    let rest = row_stores-length setup width remaining (one_word setup width remaining now) in omega arith

pub blit_stores-length : (setup : Setup) (width remaining : ℕ) (now : State) → length (blit_stores setup width remaining now) ≡ remaining * width
unfolding blit_stores
blit_stores-length setup width zero now = omega arith
blit_stores-length setup width (suc remaining) now =
    let row = row_stores-length setup width width (row_start setup now) in
    let rest = blit_stores-length setup width remaining (one_row setup width now) in
    length-append (row_stores setup width width (row_start setup now)) (blit_stores setup width remaining (one_row setup width now))
    ∙ rw (row, rest, suc-mul remaining width) (omega arith)

pub stores-length : (file : List ℕ) (size : ℕ) → length (stores file size) ≡ height size * width size
unfolding stores
stores-length file size = blit_stores-length (setup file) (width size) (height size) (state [] (start file))

-- every word zero, so far and from here on
and_assoc : (a b c : Bool) → ((a && b) && c) ≡ (a && (b && c))
and_assoc true b c = refl
and_assoc false b c = refl

all_zero-of-append : (these others : List Store) → all_zero (these ++ others) ≡ (all_zero these && all_zero others)
unfolding all_zero
all_zero-of-append [] others = refl
all_zero-of-append (one ∷ these) others =
    ap (λ (rest : Bool). eqb one.value 0 && rest) (all_zero-of-append these others)
    ∙ sym (and_assoc (eqb one.value 0) (all_zero these) (all_zero others))

one_word-allzero : (setup : Setup) (width remaining : ℕ) (now : State)
    → (one_word setup width remaining now).flow.allzero ≡ (now.flow.allzero && eqb (finished_word setup width remaining now).word 0)
unfolding one_word stored_before store_pending wait move_on finished_word finish fetch
one_word-allzero setup width remaining now = refl

words-allzero : (setup : Setup) (width remaining : ℕ) (now : State)
    → (words setup width remaining now).flow.allzero ≡ (now.flow.allzero && all_zero (row_stores setup width remaining now))
unfolding repeated row_stores all_zero
words-allzero setup width zero now = and-true now.flow.allzero
  where
    and-true : (a : Bool) → a ≡ (a && true)
    and-true true = refl
    and-true false = refl
words-allzero setup width (suc remaining) now =
    words-allzero setup width remaining (one_word setup width remaining now)
    ∙ ap (λ (zero : Bool). zero && all_zero (row_stores setup width remaining (one_word setup width remaining now))) (one_word-allzero setup width remaining now)
    ∙ and_assoc now.flow.allzero (eqb (finished_word setup width remaining now).word 0) (all_zero (row_stores setup width remaining (one_word setup width remaining now)))

one_row-allzero : (setup : Setup) (width : ℕ) (now : State)
    → (one_row setup width now).flow.allzero ≡ (now.flow.allzero && all_zero (row_stores setup width width (row_start setup now)))
unfolding one_row row_end row_start
one_row-allzero setup width now = words-allzero setup width width (row_start setup now)

pub rows-allzero : (setup : Setup) (width remaining : ℕ) (now : State)
    → (rows setup width remaining now).flow.allzero ≡ (now.flow.allzero && all_zero (blit_stores setup width remaining now))
unfolding repeated blit_stores all_zero
rows-allzero setup width zero now = and-true now.flow.allzero
  where
    and-true : (a : Bool) → a ≡ (a && true)
    and-true true = refl
    and-true false = refl
rows-allzero setup width (suc remaining) now =
    let row : List Store = row_stores setup width width (row_start setup now) in
    let rest : List Store = blit_stores setup width remaining (one_row setup width now) in
    rows-allzero setup width remaining (one_row setup width now)
    ∙ ap (λ (zero : Bool). zero && all_zero rest) (one_row-allzero setup width now)
    ∙ and_assoc now.flow.allzero (all_zero row) (all_zero rest)
    ∙ ap (λ (all : Bool). now.flow.allzero && all) (sym (all_zero-of-append row rest))

-- D's pointer after the rows
pub rows-move-d : (setup : Setup) (width remaining : ℕ) (now : State) → setup.uses.d ≡ true
    → (rows setup width remaining now).flow.pointers.d
    ≡ repeated (λ _. next_row setup.direction width setup.modulos.d) remaining now.flow.pointers.d
unfolding repeated next_row
rows-move-d setup width zero now uses = refl
rows-move-d setup width (suc remaining) now uses =
    rows-move-d setup width remaining (one_row setup width now) uses
    ∙ ap (repeated (λ _. next_row setup.direction width setup.modulos.d) remaining) (one_row-moves-d setup width now uses)

pub pointer-d-lt : (file : List ℕ) (at : Pointers) → at ≡ pointers file → at.d.word < pointer_end
unfolding pointers
pointer-d-lt file at same = rw same (pointer_at-lt file pointer_d)

pub width_narrow : (size wide : ℕ) → wide ≡ width size → wide ≤ 64
width_narrow size wide same = rw same (width-le size)

pub final_d-of-parts : (file : List ℕ) (size wide tall : ℕ) (set-up : Setup) (at : Pointers) (end : Pointer)
    → set-up ≡ setup file → at ≡ pointers file → wide ≡ width size → tall ≡ height size
    → end ≡ repeated (λ _. next_row set-up.direction wide set-up.modulos.d) tall at.d
    → end ≡ final_d file size
unfolding final_d
final_d-of-parts file size wide tall set-up at end is_set is_at is_IsWide is-tall goes = rw (is_set, is_at, is_IsWide, is-tall) at goes
