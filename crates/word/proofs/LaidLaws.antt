-- Laws of words laid into a run: one after the other, and what the run then holds.
use Rattle.word.proofs.Base.{◌≡◌, refl, sym, ap, ◌∙◌, ℕ, zero, suc, ◌+◌, ◌-◌, ◌<◌, ◌≤◌, add-zero, arith}
use Rattle.word.proofs.Base.{List, [], ◌∷◌, ◌++◌, length, get_or, set, take, drop, length-set, set_out, drop_of_length-le, length-take-le}
use Rattle.word.proofs.Base.{Bool, true, false, ◌||◌, leb, leb-true}
use Rattle.std.proofs.Common.{min}
use Rattle.std.proofs.lemmas.List.{length-drop}
use borrow.Rule.Slice.PartMut.{put_mid}
use native.Mathlib.Nat.{le_of_suc-le-suc}
use mathlib.Core.List.{append-nil}
use lib.Seq.{drop-length, drop-cons}
use Rattle.word.specs.Laid.{laid}

pub laid-of-append : {Word : Type 0} (words more : List Word) (at : ℕ) (out : List Word)
    → laid (words ++ more) at out ≡ laid more (at + length words) (laid words at out)
unfolding laid
laid-of-append [] more at out = rw add-zero
laid-of-append (word ∷ words) more at out =
    let same : at + 1 + length words ≡ at + suc (length words) = omega arith in
    laid-of-append words more (at + 1) (set out at word)
    ∙ ap (λ (place : ℕ). laid more place (laid words (at + 1) (set out at word))) same

pub laid-keeps-length : {Word : Type 0} (words : List Word) (at : ℕ) (out : List Word) → length (laid words at out) ≡ length out
unfolding laid
laid-keeps-length [] at out = refl
laid-keeps-length (word ∷ words) at out = laid-keeps-length words (at + 1) (set out at word) ∙ length-set out at word

-- words that fit, laid from the front on, stand there, and the rest stays
laid-past : {Word : Type 0} (words : List Word) (at : ℕ) (first : Word) (out : List Word) → laid words (suc at) (first ∷ out) ≡ first ∷ laid words at out
unfolding laid
laid-past [] at first out = refl
laid-past (word ∷ words) at first out =
    let same : suc at + 1 ≡ suc (at + 1) = omega arith in
    ap (λ (place : ℕ). laid words place (first ∷ set out at word)) same ∙ laid-past words (at + 1) first (set out at word)

pub laid-in-front : {Word : Type 0} (words out : List Word) → length words ≤ length out → laid words 0 out ≡ words ++ drop (length words) out
unfolding laid
laid-in-front [] out fits = refl
laid-in-front (word ∷ words) [] fits = absurd (omega arith)
laid-in-front (word ∷ words) (first ∷ out) fits =
    laid-past words 0 word out
    ∙ ap (λ (rest : List _). word ∷ rest) (laid-in-front words out (le_of_suc-le-suc fits))

pub laid-as-long : {Word : Type 0} (words : List Word) (at long : ℕ) (out next : List Word) → next ≡ laid words at out → length out ≡ long → length next ≡ long
laid-as-long words at long out next lays same = ap length lays ∙ laid-keeps-length words at out ∙ same

-- as many words as the run has stand there alone
pub laid-over : {Word : Type 0} (words out : List Word) → length words ≡ length out → laid words 0 out ≡ words
laid-over words out same =
    laid-in-front words out (omega (arith, same))
    ∙ ap (λ (many : ℕ). words ++ drop many out) same
    ∙ ap (λ (rest : List _). words ++ rest) (drop-length out)
    ∙ append-nil words

-- past the run's end nothing is written
pub laid-beyond : {Word : Type 0} (words : List Word) (at : ℕ) (out : List Word) → length out ≤ at → laid words at out ≡ out
unfolding laid
laid-beyond [] at out past = refl
laid-beyond (word ∷ words) at out past =
    ap (laid words (at + 1)) (set_out out at word past) ∙ laid-beyond words (at + 1) out (omega arith)

-- words laid one by one: a turn of the loop, and its end
module _ {Word : Type 0} (words run whole : List Word) (place at : ℕ) (so_far : laid (drop place words) at run ≡ whole) where
  pub laid-turn : (word : Word) (next : List Word) (to : ℕ) → place < length words → word ≡ get_or words place word
      → next ≡ set run at word → to ≡ at + 1 → laid (drop (place + 1) words) to next ≡ whole
  unfolding laid
  laid-turn word next to inside is sets moves =
      let same : suc place ≡ place + 1 = omega arith in
      let split : drop place words ≡ word ∷ drop (place + 1) words = drop-cons words place word inside ∙ rw (← is, same) refl in
      rw (sets, moves) (sym (ap (λ (rest : List Word). laid rest at run) split) ∙ so_far)

  pub laid-end : length words ≤ place → run ≡ whole
  unfolding laid
  laid-end past = sym (ap (λ (rest : List Word). laid rest at run) (drop_of_length-le words past)) ∙ so_far

-- words that fit, laid from a place on, stand there between what stood before and behind them
laid-inside : (words out : List ℕ) (at : ℕ) → at + length words ≤ length out
    → laid words at out ≡ take at out ++ (words ++ drop (length words) (drop at out))
laid-inside words out zero fits = laid-in-front words out (omega (arith, fits))
laid-inside words [] (suc at) fits = laid-beyond words (suc at) [] (omega arith) ∙ nothing words (omega (arith, fits))
  where
    nothing : (words : List ℕ) → length words ≤ 0 → [] ≡ words ++ drop (length words) []
    nothing [] none = refl
    nothing (word ∷ words) none = absurd (omega (arith, none))
laid-inside words (first ∷ out) (suc at) fits =
    laid-past words at first out
    ∙ ap (λ (rest : List ℕ). first ∷ rest) (laid-inside words out at (omega (arith, fits)))

-- of so many words only those count that there are, and that the run has room for
laid-as-far : (words : List ℕ) (count many at : ℕ) (out : List ℕ) → many ≤ count
    → (many < count → many < length words → length out ≤ at + many)
    → laid (take count words) at out ≡ laid (take many words) at out
unfolding laid
laid-as-far words zero zero at out few room = refl
laid-as-far words zero (suc many) at out few room = absurd (omega (arith, few))
laid-as-far [] (suc count) zero at out few room = refl
laid-as-far [] (suc count) (suc many) at out few room = refl
laid-as-far (word ∷ words) (suc count) zero at out few room =
    laid-beyond (take (suc count) (word ∷ words)) at out (omega (arith, room (omega arith) (omega arith)))
laid-as-far (word ∷ words) (suc count) (suc many) at out few room =
    laid-as-far words count many (at + 1) (set out at word) (omega (arith, few))
    (λ fewer further. omega (arith, length-set out at word, room (omega (arith, fewer)) (omega (arith, further))))

-- words of one run laid into another, as many as both runs have
pub copied : (words out part : List ℕ) (at from count fit many : ℕ) → from < length words → at < length out
    → fit ≡ min count (length words - from) → many ≡ min fit (length out - at) → part ≡ take (from + many - from) (drop from words)
    → put_mid at (at + many - at) out part ≡ laid (take count (drop from words)) at out
copied words out part at from count fit many inside room fits least same =
    let long : length (drop from words) ≡ length words - from = length-drop from words in
    let whole : many ≤ length (drop from words) = omega (arith, long, fits, least) in
    let one : from + many - from ≡ many = omega arith in
    let other : at + many - at ≡ many = omega arith in
    let lies : length (take many (drop from words)) ≡ many = length-take-le many (drop from words) whole in
    let laid_there = laid-inside (take many (drop from words)) out at (omega (arith, lies, fits, least, room)) in
    let as_far = laid-as-far (drop from words) count many at out (omega (arith, fits, least)) (λ fewer further. omega (arith, fewer, further, long, fits, least, room)) in
    rw (same, one, other) (ap (λ (behind : ℕ). take at out ++ (take many (drop from words) ++ drop behind (drop at out))) (sym lies) ∙ sym laid_there ∙ sym as_far)

-- nothing is copied from the run's end on, nor to it
pub copied-nothing : (words out : List ℕ) (at from count : ℕ) → (leb (length words) from || leb (length out) at) ≡ true
    → out ≡ laid (take count (drop from words)) at out
unfolding laid
copied-nothing words out at from count end = by_end (leb (length words) from) refl end
  where
    empty : (count : ℕ) → ◌≡◌ {A = List ℕ} (take count []) []
    empty zero = refl
    empty (suc count) = refl

    by_end : (ends : Bool) → leb (length words) from ≡ ends → (ends || leb (length out) at) ≡ true
        → out ≡ laid (take count (drop from words)) at out
    by_end true ends other =
        sym (ap (λ (rest : List ℕ). laid (take count rest) at out) (drop_of_length-le words (leb-true (length words) from ends))
        ∙ ap (λ (rest : List ℕ). laid rest at out) (empty count))
    by_end false ends other = sym (laid-beyond (take count (drop from words)) at out (leb-true (length out) at other))
