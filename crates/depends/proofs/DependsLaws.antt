-- Laws of dependence: the low eight bits of a function decide, an entry tells its sources, and a source that doesn't count may hold anything.
use Rattle.std.specs.Prelude.{if◌then◌else◌}
use Rattle.word.proofs.Base.{◌≡◌, refl, ap, ap₂, ◌∙◌, ℕ, zero, suc, ◌+◌, ◌*◌, ◌/◌, ◌%◌, ◌<◌, dec_lt, arith, Bool, true}
use Rattle.word.proofs.Base.{false, ◌||◌, not, T, eqb, eqb→eq, eqb-true, not-false}
use native.Mathlib.Nat.{not-suc-le-zero}
use lib.Bits.{xor_lt}
use Rattle.word.specs.Choice.{every}
use Rattle.word.specs.Word.{bit}
use Rattle.word.specs.Logic.{logic}
use Rattle.word.proofs.ChoiceLaws.{or_left, or_right, every-at}
use Rattle.word.proofs.WordLaws.{bit-lt, bit-of-remainder, of_bits-is-pointwise}
use Rattle.depends.specs.Types.{Depends}
use Rattle.depends.specs.Depends.{some, settings, flipped, changes, counts, depends, entry}

some-is-pointwise : (test test' : ℕ → Bool) (n : ℕ) → ((k : ℕ) → k < n → test k ≡ test' k) → some test n ≡ some test' n
some-is-pointwise test test' zero same = refl
some-is-pointwise test test' (suc n) same =
    ap₂ (λ (here below : Bool). here || below) (same n (omega arith)) (some-is-pointwise test test' n (λ k inside. same k (omega arith)))

-- a test that holds nowhere below n fails at each
some_at : (test : ℕ → Bool) (n : ℕ) → some test n ≡ false → (k : ℕ) → k < n → test k ≡ false
some_at test zero none k inside = absurd (not-suc-le-zero inside)
some_at test (suc n) none k inside =
    by_place (λ earlier. some_at test n (or_right (test n) (some test n) none) k earlier) (dec_lt k n)
  where
    by_place : (k < n → test k ≡ false) → Dec (k < n) → test k ≡ false
    by_place below (yes earlier) = below earlier
    by_place below (no later) = let same : k ≡ n = omega arith in rw same (or_left (test n) (some test n) none)

-- the low eight bits of a function decide
pub counts-of-remainder : (function weight : ℕ) → weight < 8 → counts (function % 256) weight ≡ counts function weight
unfolding counts changes
counts-of-remainder function weight small =
    some-is-pointwise (changes (function % 256) weight) (changes function weight) settings
    (λ setting inside. ap₂ (λ (x y : ℕ). not (eqb x y)) (bit-of-remainder function 8 setting (omega arith))
    (bit-of-remainder function 8 (flipped weight setting) (xor_lt 3 setting weight (omega arith) small)))

pub depends-of-remainder : (function : ℕ) → depends (function % 256) ≡ depends function
depends-of-remainder function =
    rw (counts-of-remainder function 4 (omega arith), counts-of-remainder function 2 (omega arith), counts-of-remainder function 1 (omega arith))

-- the sources that a table's entry tells
abbrev pub told : (entry : ℕ) → Depends
told entry = record { a = eqb (entry / 4 % 2) 1; b = eqb (entry / 2 % 2) 1; c = eqb (entry % 2) 1 }

told-of-weights : (a b c : Bool)
    → told ((if a then 4 else 0) + (if b then 2 else 0) + (if c then 1 else 0)) ≡ record { a = a; b = b; c = c }
told-of-weights true true true = refl
told-of-weights true true false = refl
told-of-weights true false true = refl
told-of-weights true false false = refl
told-of-weights false true true = refl
told-of-weights false true false = refl
told-of-weights false false true = refl
told-of-weights false false false = refl

pub told-of-entry : (function found : ℕ) → found ≡ entry (function % 256) → told found ≡ depends function
unfolding entry
told-of-entry function found same =
    ap told same
    ∙ told-of-weights (counts (function % 256) 4) (counts (function % 256) 2) (counts (function % 256) 1)
    ∙ depends-of-remainder function

-- at each setting the answer stays when a source that doesn't count is flipped
answer-of-flipped : (function weight setting : ℕ) → counts function weight ≡ false
    → setting < settings → bit function setting ≡ bit function (flipped weight setting)
unfolding counts changes
answer-of-flipped function weight setting none inside =
    eqb-true _ _ (not-false _ (some_at (changes function weight) settings none setting inside))

abbrev setting : (a b c : ℕ) → ℕ
setting a b c = 4 * a + 2 * b + c

-- two settings that differ in the source of one weight, if at all
abbrev pub beside : (weight here there : ℕ) → Bool
beside weight here there = eqb here there || eqb (flipped weight here) there

or_cases : (P : Type 0) (a b : Bool) → (T a → P) → (T b → P) → T (a || b) → P
or_cases P true b first second either = first either
or_cases P false b first second either = second either

answer-of-beside : (function weight here there : ℕ) → counts function weight ≡ false
    → here < settings → T (beside weight here there) → bit function here ≡ bit function there
answer-of-beside function weight here there none inside either =
    or_cases (bit function here ≡ bit function there) (eqb here there) (eqb (flipped weight here) there)
    (λ same. ap (bit function) (eqb→eq here there same))
    (λ same. answer-of-flipped function weight here none inside ∙ ap (bit function) (eqb→eq (flipped weight here) there same))
    either

setting-lt : (a b c : ℕ) → a < 2 → b < 2 → c < 2 → setting a b c < settings
setting-lt a b c one two three = omega arith

-- words whose settings differ in a source that doesn't count, if at all, give the same
pub logic-of-beside : (function weight a b c a' b' c' : ℕ) → counts function weight ≡ false
    → ((i : ℕ) → T (beside weight (setting (bit a i) (bit b i) (bit c i)) (setting (bit a' i) (bit b' i) (bit c' i))))
    → logic function a b c ≡ logic function a' b' c'
unfolding logic
logic-of-beside function weight a b c a' b' c' none near =
    of_bits-is-pointwise (λ i. bit function (setting (bit a i) (bit b i) (bit c i)))
    (λ i. bit function (setting (bit a' i) (bit b' i) (bit c' i))) 16
    (λ i inside. answer-of-beside function weight (setting (bit a i) (bit b i) (bit c i)) (setting (bit a' i) (bit b' i) (bit c' i)) none
    (setting-lt (bit a i) (bit b i) (bit c i) (bit-lt a i) (bit-lt b i) (bit-lt c i)) (near i))

-- what was computed at all values of four bits holds of any
bits_at : (test : (p q r s : ℕ) → Bool) → T (every (λ p. every (λ q. every (λ r. every (λ s. test p q r s) 2) 2) 2) 2)
    → (p q r s : ℕ) → p < 2 → q < 2 → r < 2 → s < 2 → T (test p q r s)
bits_at test all p q r s hp hq hr hs =
    every-at (λ s. test p q r s) 2
    (every-at (λ r. every (λ s. test p q r s) 2) 2
    (every-at (λ q. every (λ r. every (λ s. test p q r s) 2) 2) 2
    (every-at (λ p. every (λ q. every (λ r. every (λ s. test p q r s) 2) 2) 2) 2 all p hp) q hq) r hr) s hs

-- a source that doesn't count may hold anything
pub logic-without-a : (function a a' b c : ℕ) → counts function 4 ≡ false → logic function a b c ≡ logic function a' b c
logic-without-a function a a' b c none =
    logic-of-beside function 4 a b c a' b c none
    (λ i. bits_at (λ a a' b c. beside 4 (setting a b c) (setting a' b c)) tt
    (bit a i) (bit a' i) (bit b i) (bit c i) (bit-lt a i) (bit-lt a' i) (bit-lt b i) (bit-lt c i))

pub logic-without-b : (function a b b' c : ℕ) → counts function 2 ≡ false → logic function a b c ≡ logic function a b' c
logic-without-b function a b b' c none =
    logic-of-beside function 2 a b c a b' c none
    (λ i. bits_at (λ a b b' c. beside 2 (setting a b c) (setting a b' c)) tt
    (bit a i) (bit b i) (bit b' i) (bit c i) (bit-lt a i) (bit-lt b i) (bit-lt b' i) (bit-lt c i))

pub logic-without-c : (function a b c c' : ℕ) → counts function 1 ≡ false → logic function a b c ≡ logic function a b c'
logic-without-c function a b c c' none =
    logic-of-beside function 1 a b c a b c' none
    (λ i. bits_at (λ a b c c'. beside 1 (setting a b c) (setting a b c')) tt
    (bit a i) (bit b i) (bit c i) (bit c' i) (bit-lt a i) (bit-lt b i) (bit-lt c i) (bit-lt c' i))
