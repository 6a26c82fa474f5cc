-- Laws of places: a run of offsets, and what no offset of the table is, each by one computed test over the table.
use Rattle.word.proofs.Base.{◌≡◌, refl, sym, ap, ◌∙◌, ℕ, suc, ◌+◌, ◌-◌, ◌*◌, ◌/◌, ◌%◌, ◌<◌, ◌≤◌, arith, Bool, true}
use Rattle.word.proofs.Base.{◌&&◌, not, T, eqb, ltb, eqb→eq, ne_eqb, lt-ltb, List, [], ◌∷◌, length, get_or}
use native.Mathlib.Nat.{zero-lt-suc}
use mathlib.Core.List.{map}
use Rattle.word.specs.Choice.{every}
use Rattle.word.proofs.ChoiceLaws.{every-at}
use Rattle.file.specs.File.{Register, registers, place_in, place}
use Rattle.file.specs.Places.{flag}

-- the offset of each register, by place
abbrev offsets : List Register → List ℕ
offsets rows = map (λ (register : Register). register.offset) rows

place_in-of-none : (rows : List Register) (offset : ℕ)
    → ((k : ℕ) → k < length rows → offset ≡ get_or (offsets rows) k 0 → ⊥) → length rows ≡ place_in rows offset
unfolding place_in
place_in-of-none [] offset none = refl
place_in-of-none (row ∷ rows) offset none =
    rw (ne_eqb row.offset offset (λ same. none 0 (zero-lt-suc (length rows)) (sym same)))
    (ap suc (place_in-of-none rows offset (λ k inside. none (suc k) (omega arith))))

-- an offset for which a test holds that holds for none of the table
pub place-of-none : (test : ℕ → Bool) (offset : ℕ)
    → T (every (λ (k : ℕ). not (test (get_or (offsets registers) k 0))) flag) → test offset ≡ true → flag ≡ place offset
unfolding place registers
place-of-none test offset none holds =
    place_in-of-none registers offset
    (λ k inside same.
    let other : T (not (test (get_or (offsets registers) k 0))) = every-at (λ (k : ℕ). not (test (get_or (offsets registers) k 0))) flag none k inside in
    let here : T (not (test offset)) = rw same other in
    rw holds at here)

-- an offset in a gap, between two of the table
pub place-between : (low high offset : ℕ) → T (every (λ (k : ℕ). not (ltb low (get_or (offsets registers) k 0) && ltb (get_or (offsets registers) k 0) high)) flag)
    → low < offset → offset < high → flag ≡ place offset
place-between low high offset none from to =
    place-of-none (λ (at : ℕ). ltb low at && ltb at high) offset none (rw (lt-ltb low offset from, lt-ltb offset high to))

-- so many registers from a place on have offsets from an even one on, each two above the one before
abbrev pub run : (first many at : ℕ) → Bool
run first many at = every (λ (k : ℕ). eqb (at + k) (place (first + 2 * k))) many

pub place-in-run : (first many at offset half : ℕ) → T (run (2 * first) many at)
    → (offset % 2 ≡ 1 → ⊥) → half ≡ offset / 2 → 2 * first ≤ offset → offset < 2 * first + 2 * many → half - first + at ≡ place offset
place-in-run first many at offset half all even is from to =
    let there : 2 * first + 2 * (half - first) ≡ offset = omega (arith, even, is, from) in
    let found : at + (half - first) ≡ place (2 * first + 2 * (half - first)) =
    eqb→eq _ _ (every-at (λ (k : ℕ). eqb (at + k) (place (2 * first + 2 * k))) many all (half - first) (omega (arith, is, from, to))) in
    let order : half - first + at ≡ at + (half - first) = omega arith in
    order ∙ found ∙ ap place there
