-- Laws of arrays word by word: turns of the loops that set the next word.
use Rattle.word.proofs.Base.{◌≡◌, refl, sym, ap, subst, ◌∙◌, ℕ, zero, suc, ◌+◌, ◌*◌, ◌<◌, ◌≤◌, suc-mul}
use Rattle.word.proofs.Base.{mul-le-mul_right, add-one, dec_lt, arith, Bool, true, false, ◌&&◌, T, eqb, List, length}
use Rattle.word.proofs.Base.{get_or, set, get_or-set_same, get_or-set_other, add-zero, bit_or}
use native.Mathlib.Nat.{add_assoc}
use lib.Bits.{or_zero_l, or_add_and, and_le_r}
use lib.Dec.{eqb-suc-zero}
use mathlib.Core.Bool.{and_comm}
use Rattle.block.specs.Inner.Each.{at, Each, Kept, Laid, nought}

-- what is told of a test that failed
pub never : {Promise : Type 0} → true ≡ false → Promise
never told = absurd (subst T told tt)

pub each_none : (words : List ℕ) (word : ℕ → ℕ) → Each 0 words word
unfolding Each
each_none words word j below = absurd (omega arith)

pub each-no-row : (width : ℕ) (words : List ℕ) (word : ℕ → ℕ) → Each (0 * width) words word
unfolding Each
each-no-row width words word j below = absurd (omega arith)

pub each_turn : (i here : ℕ) (words : List ℕ) (word : ℕ → ℕ) → i < length words → here ≡ word i → Each i words word → Each (i + 1) (set words i here) word
unfolding Each
each_turn i here words word inside is all j below = by (dec_lt j i)
  where
    by : Dec (j < i) → get_or (set words i here) j 0 ≡ word j
    by (yes earlier) = get_or-set_other words i j here 0 (λ same. absurd (omega arith)) ∙ all j earlier
    by (no later) = let same : j ≡ i = omega arith in rw same (get_or-set_same words i here 0 inside ∙ is)

pub each_fewer : (i n : ℕ) (words : List ℕ) (word : ℕ → ℕ) → n ≤ i → Each i words word → Each n words word
unfolding Each
each_fewer i n words word most all j below = all j (omega arith)

pub each-self : (n : ℕ) (words : List ℕ) → Each n words (at words)
unfolding Each at
each-self n words j below = refl

pub each-copied : (n : ℕ) (words copies : List ℕ) (word : ℕ → ℕ) → Each n words word → Each n copies (at words) → Each n copies word
unfolding Each at
each-copied n words copies word all same j below = same j below ∙ all j below

-- from some word on all are as they were
pub kept-all : (i : ℕ) (words : List ℕ) → Kept i words words
unfolding Kept
kept-all i words j past = refl

pub kept-turn : (i here : ℕ) (words before : List ℕ) → Kept i words before → Kept (i + 1) (set words i here) before
unfolding Kept
kept-turn i here words before kept j past = get_or-set_other words i j here 0 (λ same. absurd (omega arith)) ∙ kept j (omega arith)

-- a loop has made the first i words, and the others are as they were
pub record MadeTo (i : ℕ) (words before : List ℕ) (Made : (j word made : ℕ) → Type 0) : Type 0 where
  pub made : (j : ℕ) → j < i → Made j (get_or before j 0) (get_or words j 0)
  pub kept : Kept i words before

pub made-none : (words : List ℕ) (Made : (j word made : ℕ) → Type 0) → MadeTo 0 words words Made
made-none words Made = record { made = λ j below. absurd (omega arith); kept = kept-all _ _ }

pub made-turn : (i here : ℕ) (words before : List ℕ) (Made : (j word made : ℕ) → Type 0) → i < length words → Made i (get_or words i 0) here
    → MadeTo i words before Made → MadeTo (i + 1) (set words i here) before Made
unfolding Kept
made-turn i here words before Made inside is so_far = record { made = λ j below. by j below (dec_lt j i); kept = kept-turn i here words before so_far.kept }
  where
    by : (j : ℕ) → j < i + 1 → Dec (j < i) → Made j (get_or before j 0) (get_or (set words i here) j 0)
    by j below (yes earlier) = rw (get_or-set_other words i j here 0 (λ same. absurd (omega arith))) (so_far.made j earlier)
    by j below (no later) =
        let same : j ≡ i = omega arith in
        rw (same, get_or-set_same words i here 0 inside, ← so_far.kept i (omega arith)) is

-- a row laid to its place in an array
pub laid_none : (s : ℕ) (words : List ℕ) (row : ℕ → ℕ) → Laid s 0 words words row
unfolding Laid
laid_none s words row word all is = rw (add-zero s) all

pub laid-turn : (s i here : ℕ) (words before : List ℕ) (row : ℕ → ℕ) → s + i < length words → here ≡ row i
    → Laid s i words before row → Laid s (i + 1) (set words (s + i) here) before row
unfolding Laid
laid-turn s i this words before row inside here so_far word all is =
    rw (← add_assoc s i 1) (each_turn (s + i) this words word inside (here ∙ is i (omega arith)) (so_far word all (λ j below. is j (omega arith))))

-- nought, as long as every word is
or-nought : (any word : ℕ) → (eqb any 0 && eqb word 0) ≡ eqb (bit_or any word) 0
or-nought zero word = ap (λ (all : ℕ). eqb all 0) (sym (or_zero_l word))
or-nought (suc any) word =
    ap (λ (none : Bool). none && eqb word 0) (eqb-suc-zero any)
    ∙ over (bit_or (suc any) word) (omega (arith, or_add_and (suc any) word, and_le_r (suc any) word))
  where
    over : (all : ℕ) → 0 < all → false ≡ eqb all 0
    over zero more = absurd (omega arith)
    over (suc all) more = sym (eqb-suc-zero all)

pub nought-none : (words : List ℕ) → eqb 0 0 ≡ nought 0 (at words)
unfolding nought
nought-none words = refl

pub nought-turn : (all i : ℕ) (words : List ℕ) → eqb all 0 ≡ nought i (at words) → eqb (bit_or all (get_or words i 0)) 0 ≡ nought (i + 1) (at words)
unfolding nought at
nought-turn all i words so_far = rw add-one (sym (or-nought all (get_or words i 0)) ∙ and_comm (eqb all 0) (eqb (get_or words i 0) 0) ∙ rw so_far)

-- a row of so many words, and the next one's start
pub row-fits : (rows width row : ℕ) → row < rows → row * width + width ≤ rows * width
row-fits rows width row below =
    let fits : suc row * width ≤ rows * width = mul-le-mul_right width below in
    omega (arith, suc-mul row width)

pub next-start : (row width : ℕ) → (row + 1) * width ≡ row * width + width
next-start row width = rw (add-one row) (suc-mul row width)
