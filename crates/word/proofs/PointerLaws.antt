-- Laws of pointers: their moves, and that moves of one word are one move of so many.
use Rattle.word.proofs.Base.{◌≡◌, sym, ap, ◌∙◌, ℕ, zero, suc, ◌+◌, ◌-◌, ◌%◌, ◌<◌, ◌≤◌, mod-eq_of_lt, arith}
use Rattle.word.specs.declared.types.Direction.{Direction}
use Rattle.word.specs.declared.types.Direction.TheVariants.{Ascending, Descending}
use Rattle.word.specs.declared.types.Pointer.{Pointer}
use Rattle.word.specs.Repeat.{repeated}
use Rattle.word.specs.Pointer.{pointer_end, pointer, moved, passed, next_row}

-- a word number may be bounded before it is moved
pub sum-of-remainder : (word by : ℕ) → (word % pointer_end + by) % pointer_end ≡ (word + by) % pointer_end
sum-of-remainder word by = omega arith

-- one word and so many more, upward and downward
up-and-on : (word remaining : ℕ) → (word + suc remaining) % pointer_end ≡ ((word + 1) % pointer_end + remaining) % pointer_end
up-and-on word remaining = omega arith

down-and-on : (word remaining : ℕ) → word < pointer_end → suc remaining < pointer_end
    → (word + (pointer_end - suc remaining)) % pointer_end ≡ ((word + (pointer_end - 1)) % pointer_end + (pointer_end - remaining)) % pointer_end
down-and-on word remaining small few = omega arith

-- width moves of one word are one move of width words
pub moves-are-one : (direction : Direction) (width : ℕ) (pointer : Pointer) → pointer.word < pointer_end → width < pointer_end
    → passed direction width pointer ≡ repeated (λ _. moved direction) width pointer
unfolding repeated passed moved
moves-are-one Ascending zero pointer small few = ap (λ (word : ℕ). record { word = word }) (omega arith)
moves-are-one Ascending (suc width) pointer small few =
    let whole : suc width % pointer_end ≡ suc width = mod-eq_of_lt few in
    let rest : width % pointer_end ≡ width = mod-eq_of_lt (omega arith) in
    ap (λ (word : ℕ). record { word = word })
    (ap (λ (by : ℕ). (pointer.word + by) % pointer_end) whole
    ∙ up-and-on pointer.word width
    ∙ ap (λ (by : ℕ). ((pointer.word + 1) % pointer_end + by) % pointer_end) (sym rest))
    ∙ moves-are-one Ascending width (record { word = (pointer.word + 1) % pointer_end }) (omega arith) (omega arith)
moves-are-one Descending zero pointer small few = ap (λ (word : ℕ). record { word = word }) (omega arith)
moves-are-one Descending (suc width) pointer small few =
    let whole : suc width % pointer_end ≡ suc width = mod-eq_of_lt few in
    let rest : width % pointer_end ≡ width = mod-eq_of_lt (omega arith) in
    ap (λ (word : ℕ). record { word = word })
    (ap (λ (by : ℕ). (pointer.word + (pointer_end - by)) % pointer_end) whole
    ∙ down-and-on pointer.word width small few
    ∙ ap (λ (by : ℕ). ((pointer.word + (pointer_end - 1)) % pointer_end + (pointer_end - by)) % pointer_end) (sym rest))
    ∙ moves-are-one Descending width (record { word = (pointer.word + (pointer_end - 1)) % pointer_end }) (omega arith) (omega arith)

pub passed-lt : (direction : Direction) (words : ℕ) (pointer : Pointer) → (passed direction words pointer).word < pointer_end
unfolding passed
passed-lt Ascending words pointer = omega arith
passed-lt Descending words pointer = omega arith

pub moved-lt : (direction : Direction) (pointer : Pointer) → (moved direction pointer).word < pointer_end
unfolding moved
moved-lt Ascending pointer = omega arith
moved-lt Descending pointer = omega arith

-- a row, and the modulo after it
pub next_row-lt : (direction : Direction) (width modulo : ℕ) (pointer : Pointer) → (next_row direction width modulo pointer).word < pointer_end
unfolding next_row
next_row-lt direction width modulo pointer = passed-lt direction modulo (repeated (λ _. moved direction) width pointer)

pub next_row-of-moves : (direction : Direction) (width modulo : ℕ) (pointer end next : Pointer) → pointer.word < pointer_end → width ≤ 64
    → end ≡ passed direction width pointer → next ≡ passed direction modulo end
    → (next ≡ next_row direction width modulo pointer) × (next.word < pointer_end)
unfolding next_row
next_row-of-moves direction width modulo pointer end next small narrow row turn =
    (turn ∙ ap (passed direction modulo) (row ∙ moves-are-one direction width pointer small (omega arith)), rw turn (passed-lt direction modulo end))
