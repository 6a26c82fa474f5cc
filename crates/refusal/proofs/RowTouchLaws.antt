-- Laws of the words that a row touches: its two ends tell for the row.
use Rattle.word.proofs.Base.{◌≡◌, sym, ap, ◌∙◌, ℕ, zero, suc, ◌+◌, ◌-◌, ◌%◌, ◌<◌, ◌≤◌, dec_lt, arith, Bool, true, false}
use Rattle.word.proofs.Base.{◌||◌, leb, ltb, le-leb, lt-leb, lt-ltb, le-ltb}
use Rattle.word.specs.declared.types.Direction.{Direction}
use Rattle.word.specs.declared.types.Direction.TheVariants.{Ascending, Descending}
use Rattle.word.specs.declared.types.Pointer.{Pointer}
use Rattle.word.specs.Pointer.{pointer_end, moved}
use Rattle.refusal.specs.Touch.{row_touches, leaves}

-- the first word decides, or the rest do
leaves-by-first : (n word : ℕ) (all rest : Bool)
    → (n ≤ word → all ≡ true) → (word < n → all ≡ rest) → all ≡ (leb n word || rest)
leaves-by-first n word all rest outside inside = by_place (dec_lt word n)
  where
    by_place : Dec (word < n) → all ≡ (leb n word || rest)
    by_place (yes below) = rw (lt-leb n word below) (inside below)
    by_place (no above) = let past : n ≤ word = omega arith in rw (le-leb n word past) (outside past)

-- a row upward leaves where its last word does; one that goes round passes 262,143, which lies at n or above
pub leaves-upward : (n width : ℕ) (pointer : Pointer) → n < pointer_end → pointer.word < pointer_end → 1 ≤ width
    → ltb n (pointer.word + width) ≡ leaves n (row_touches Ascending width pointer)
unfolding leaves row_touches moved
leaves-upward n zero pointer short small some = absurd (omega arith)
leaves-upward n (suc zero) pointer short small some =
    leaves-by-first n pointer.word _ _
    (λ outside. lt-ltb n (pointer.word + 1) (omega arith))
    (λ inside. le-ltb n (pointer.word + 1) (omega arith))
leaves-upward n (suc (suc remaining)) pointer short small some =
    leaves-by-first n pointer.word _ _
    (λ outside. lt-ltb n (pointer.word + suc (suc remaining)) (omega arith))
    (λ inside.
    let next : (pointer.word + 1) % pointer_end ≡ pointer.word + 1 = omega arith in
    let far : pointer.word + suc (suc remaining) ≡ (pointer.word + 1) % pointer_end + suc remaining = omega arith in
    rw far (leaves-upward n (suc remaining) (record { word = (pointer.word + 1) % pointer_end }) short (omega arith) (omega arith)))

-- two tests of order that hold together
same_test : (a b c d : ℕ) → (a < b → c < d) → (b ≤ a → d ≤ c) → ltb a b ≡ ltb c d
same_test a b c d yields fails = by_order (dec_lt a b)
  where
    by_order : Dec (a < b) → ltb a b ≡ ltb c d
    by_order (yes less) = lt-ltb a b less ∙ sym (lt-ltb c d (yields less))
    by_order (no more) = let past : b ≤ a = omega arith in le-ltb a b past ∙ sym (le-ltb c d (fails past))

-- a row downward leaves at its first word, or where it goes round
pub leaves-downward : (n width : ℕ) (pointer : Pointer) → n < pointer_end → pointer.word < pointer_end → 1 ≤ width
    → (leb n pointer.word || ltb (pointer.word + 1) width) ≡ leaves n (row_touches Descending width pointer)
unfolding leaves row_touches moved
leaves-downward n zero pointer short small some = absurd (omega arith)
leaves-downward n (suc zero) pointer short small some =
    ap (λ (rest : Bool). leb n pointer.word || rest) (le-ltb (pointer.word + 1) 1 (omega arith))
leaves-downward n (suc (suc remaining)) pointer short small some =
    leaves-by-first n pointer.word _ _
    (λ outside. rw (le-leb n pointer.word outside))
    (λ inside. rw (lt-leb n pointer.word inside)
    (rest pointer.word inside
    (leaves-downward n (suc remaining) (record { word = (pointer.word + (pointer_end - 1)) % pointer_end }) short (omega arith) (omega arith))))
  where
    rest : (word : ℕ) → word < n
        → (leb n ((word + (pointer_end - 1)) % pointer_end) || ltb ((word + (pointer_end - 1)) % pointer_end + 1) (suc remaining))
        ≡ leaves n (row_touches Descending (suc remaining) (record { word = (word + (pointer_end - 1)) % pointer_end }))
        → ltb (word + 1) (suc (suc remaining)) ≡ leaves n (row_touches Descending (suc remaining) (record { word = (word + (pointer_end - 1)) % pointer_end }))
    rest zero inside later =
        let round : leb n (pointer_end - 1) ≡ true = le-leb n (pointer_end - 1) (omega arith) in
        lt-ltb 1 (suc (suc remaining)) (omega arith) ∙ (ap (λ (first : Bool). first || ltb pointer_end (suc remaining)) (sym round) ∙ later)
    rest (suc word) inside later =
        let next : (suc word + (pointer_end - 1)) % pointer_end ≡ word = omega arith in
        let below : leb n word ≡ false = lt-leb n word (omega arith) in
        same_test (suc word + 1) (suc (suc remaining)) (word + 1) (suc remaining) (λ less. omega arith) (λ more. omega arith)
        ∙ ap (λ (first : Bool). first || ltb (word + 1) (suc remaining)) (sym below)
        ∙ ap (λ (at : ℕ). leb n at || ltb (at + 1) (suc remaining)) (sym next)
        ∙ later

pub leaves-when-first-above : (n width : ℕ) (direction : Direction) (pointer : Pointer)
    → direction ≡ Descending → n < pointer_end → pointer.word < pointer_end → 1 ≤ width → n ≤ pointer.word
    → true ≡ leaves n (row_touches direction width pointer)
leaves-when-first-above n width direction pointer way short small some above =
    rw (way, ← leaves-downward n width pointer short small some, le-leb n pointer.word above)

pub leaves-when-first-below : (n width : ℕ) (direction : Direction) (pointer : Pointer)
    → direction ≡ Descending → n < pointer_end → pointer.word < pointer_end → 1 ≤ width → pointer.word < n
    → ltb (pointer.word + 1) width ≡ leaves n (row_touches direction width pointer)
leaves-when-first-below n width direction pointer way short small some below =
    rw (way, ← leaves-downward n width pointer short small some, lt-leb n pointer.word below)

pub leaves-when-ascending : (n width : ℕ) (direction : Direction) (pointer : Pointer)
    → direction ≡ Ascending → n < pointer_end → pointer.word < pointer_end → 1 ≤ width
    → ltb n (pointer.word + width) ≡ leaves n (row_touches direction width pointer)
leaves-when-ascending n width direction pointer way short small some = rw way (leaves-upward n width pointer short small some)
