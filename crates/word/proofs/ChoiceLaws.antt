-- Laws of choices, and of tests at every number below one.
use Rattle.std.specs.Prelude.{if◌then◌else◌}
use Rattle.word.proofs.Base.{◌≡◌, refl, ap, ◌∙◌, ℕ, zero, suc, ◌+◌, ◌<◌, ◌≤◌, add-zero, add-suc, add-one, dec_lt}
use Rattle.word.proofs.Base.{arith, Bool, true, false, ◌&&◌, ◌||◌, not, T, leb, ltb, le-leb, lt-leb, lt-ltb}
use Rattle.word.proofs.Base.{le-ltb}
use native.Mathlib.Nat.{not-suc-le-zero}
use Rattle.std.proofs.Math.Bool.{and_comm}
use Rattle.word.specs.Choice.{every}

-- what a choice gives, by its test
pub if-when-true : {Answer : Type 0} (test : Bool) (answer this other : Answer)
    → test ≡ true → answer ≡ this → answer ≡ (if test then this else other)
if-when-true test answer this other holds same = rw holds same

pub if-when-false : {Answer : Type 0} (test : Bool) (answer this other : Answer)
    → test ≡ false → answer ≡ other → answer ≡ (if test then this else other)
if-when-false test answer this other fails same = rw fails same

-- what holds of both holds of the choice
pub if-either : {Answer : Type 0} (Holds : Answer → Type 0) (test : Bool) (this other : Answer)
    → Holds this → Holds other → Holds (if test then this else other)
if-either Holds true this other first second = first
if-either Holds false this other first second = second

T-left : (a b : Bool) → T (a && b) → T a
T-left true b both = tt
T-left false b both = both

T-right : (a b : Bool) → T (a && b) → T b
T-right true b both = both
T-right false b both = absurd both

-- both of two tests hold, or neither does
pub and_left : (a b : Bool) → (a && b) ≡ true → a ≡ true
and_left true b both = refl
and_left false b both = both

pub and_right : (a b : Bool) → (a && b) ≡ true → b ≡ true
and_right true b both = both
and_right false b both = let n : ◌≡◌ {A = ℕ} 0 1 = cc in absurd (omega arith)

pub and_none : (a : Bool) → (a && false) ≡ false
and_none true = refl
and_none false = refl

pub or_left : (a b : Bool) → (a || b) ≡ false → a ≡ false
or_left true b neither = neither
or_left false b neither = refl

pub or_right : (a b : Bool) → (a || b) ≡ false → b ≡ false
or_right true b neither = let n : ◌≡◌ {A = ℕ} 0 1 = cc in absurd (omega arith)
or_right false b neither = neither

-- the far end tested the other way round, and what passing it tells
pub beyond-is-not-within : (most n : ℕ) → ltb most n ≡ not (leb n most)
beyond-is-not-within most n = by_order (dec_lt most n)
  where
    by_order : Dec (most < n) → ltb most n ≡ not (leb n most)
    by_order (yes far) = rw (lt-ltb most n far, lt-leb n most far)
    by_order (no near) = let inside : n ≤ most = omega arith in rw (le-ltb most n inside, le-leb n most inside)

pub within-when-passed : (n most : ℕ) → not (leb n most) ≡ false → n ≤ most
within-when-passed n most fits = by_order (dec_lt most n)
  where
    by_order : Dec (most < n) → n ≤ most
    by_order (yes far) =
        let no : not false ≡ false = rw (lt-leb n most far) at fits in
        let n : ◌≡◌ {A = ℕ} 0 1 = cc in absurd (omega arith)
    by_order (no near) = omega arith

-- a test that was computed at every number below n holds at each
pub every-at : (test : ℕ → Bool) (n : ℕ) → T (every test n) → (k : ℕ) → k < n → T (test k)
every-at test zero all k inside = absurd (not-suc-le-zero inside)
every-at test (suc n) all k inside =
    by_place (λ earlier. every-at test n (T-right (test n) (every test n) all) k earlier) (dec_lt k n)
  where
    by_place : (k < n → T (test k)) → Dec (k < n) → T (test k)
    by_place below (yes earlier) = below earlier
    by_place below (no later) = let same : k ≡ n = omega arith in rw same (T-left (test n) (every test n) all)

-- and one that holds at each was computed
pub every-of-each : (test : ℕ → Bool) (n : ℕ) → ((k : ℕ) → k < n → test k ≡ true) → every test n ≡ true
every-of-each test zero each = refl
every-of-each test (suc n) each = rw (each n (omega arith), every-of-each test n (λ k inside. each k (omega (arith, inside))))

-- a test at every number below a sum: at the first n, and at those after them
pub every-of-sum : (test : ℕ → Bool) (n more : ℕ) → (every (λ (k : ℕ). test (n + k)) more && every test n) ≡ every test (n + more)
every-of-sum test n zero = rw add-zero
every-of-sum test n (suc more) =
    rw add-suc
    (and_assoc (test (n + more)) (every (λ (k : ℕ). test (n + k)) more) (every test n)
    ∙ ap (λ (rest : Bool). test (n + more) && rest) (every-of-sum test n more))
  where
    and_assoc : (a b c : Bool) → ((a && b) && c) ≡ (a && (b && c))
    and_assoc true b c = refl
    and_assoc false b c = refl

-- a turn of a loop that tries the numbers from 0 up, and its end
pub every-turn : (test : ℕ → Bool) (n : ℕ) (here so_far : Bool) → here ≡ test n → so_far ≡ every test n → (here && so_far) ≡ every test (n + 1)
every-turn test n here so_far holds same = rw (holds, same, add-one)

pub every-next : (test : ℕ → Bool) (n : ℕ) (here so_far : Bool) → here ≡ test n → so_far ≡ every test n → (so_far && here) ≡ every test (n + 1)
every-next test n here so_far holds same = and_comm so_far here ∙ every-turn test n here so_far holds same

pub every-done : (test : ℕ → Bool) (n end : ℕ) (so_far : Bool) → n ≤ end → end ≤ n → so_far ≡ every test n → so_far ≡ every test end
every-done test n end so_far before past same = let all : n ≡ end = omega (arith, before, past) in same ∙ ap (every test) all
