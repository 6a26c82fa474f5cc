-- Laws of words and their bits.
use Rattle.word.proofs.Base.{◌≡◌, refl, sym, ap, ap₂, ◌∙◌, ℕ, zero, suc, ◌+◌, ◌-◌, ◌*◌, ◌/◌, ◌%◌, ◌^◌, ◌<◌}
use Rattle.word.proofs.Base.{add-zero, mod-lt, mod-eq_of_lt, one-add, dec_lt, arith, Bool, true, false, eqb}
use Rattle.word.proofs.Base.{eqb→eq, eqb-true, eqb-false, List, ◌∷◌, length, get_or, set, get_or-set_same}
use Rattle.word.proofs.Base.{get_or-set_other, set_out, bit_and, bit_or, bit_xor}
use native.Mathlib.Nat.{mod-one, zero-lt-suc}
use lib.Dec.{lit<}
use lib.Pow.{mod-pow-add, pow_pos, field, mod-mod-pow, high, low, shr-shr, shl-shr}
use lib.Arith.{digits_lt}
use lib.Bits.{and_shr, or_shr, xor_shr, and_mod, or_mod, xor_mod}
use Rattle.word.specs.Choice.{every}
use Rattle.word.specs.Word.{SixteenBits, bit, of_bits}
use Rattle.word.proofs.ChoiceLaws.{every-at}

pub bit-lt : (x i : ℕ) → bit x i < 2
bit-lt x i = mod-lt (x / 2 ^ i) (lit< tt)

pub bit-of-and : (a b i : ℕ) → bit (bit_and a b) i ≡ bit_and (bit a i) (bit b i)
bit-of-and a b i = ap (λ (x : ℕ). x % 2) (and_shr a b i) ∙ and_mod (a / 2 ^ i) (b / 2 ^ i) 1

pub bit-of-or : (a b i : ℕ) → bit (bit_or a b) i ≡ bit_or (bit a i) (bit b i)
bit-of-or a b i = ap (λ (x : ℕ). x % 2) (or_shr a b i) ∙ or_mod (a / 2 ^ i) (b / 2 ^ i) 1

pub bit-of-xor : (a b i : ℕ) → bit (bit_xor a b) i ≡ bit_xor (bit a i) (bit b i)
bit-of-xor a b i = ap (λ (x : ℕ). x % 2) (xor_shr a b i) ∙ xor_mod (a / 2 ^ i) (b / 2 ^ i) 1

-- a number is made of its bits
pub of_bits-of-bits : (x n : ℕ) → of_bits (bit x) n ≡ x % 2 ^ n
unfolding of_bits
of_bits-of-bits x zero = sym (mod-one x)
of_bits-of-bits x (suc n) =
    ap (λ (r : ℕ). x / 2 ^ n % 2 * 2 ^ n + r) (of_bits-of-bits x n) ∙ sym (mod-pow-add x 1 n) ∙ ap (λ (e : ℕ). x % 2 ^ e) (one-add n)

pub of_bits-is-pointwise : (f g : ℕ → ℕ) (n : ℕ) → ((i : ℕ) → i < n → f i ≡ g i) → of_bits f n ≡ of_bits g n
unfolding of_bits
of_bits-is-pointwise f g zero h = refl
of_bits-is-pointwise f g (suc n) h =
    ap₂ (λ (b r : ℕ). b * 2 ^ n + r) (h n (omega arith)) (of_bits-is-pointwise f g n (λ i l. h i (omega arith)))

-- a number of n bits is the one with the bits f, when each of its bits is f's
pub of_bits-is-unique : (f : ℕ → ℕ) (n x : ℕ) → x < 2 ^ n → ((i : ℕ) → i < n → bit x i ≡ f i) → x ≡ of_bits f n
of_bits-is-unique f n x h e = sym (mod-eq_of_lt h) ∙ sym (of_bits-of-bits x n) ∙ of_bits-is-pointwise (bit x) f n e

-- two numbers of n bits are equal when their bits are
pub bits-are-enough : (n x y : ℕ) → x < 2 ^ n → y < 2 ^ n → ((i : ℕ) → i < n → bit x i ≡ bit y i) → x ≡ y
bits-are-enough n x y hx hy e = of_bits-is-unique (bit y) n x hx e ∙ of_bits-of-bits y n ∙ mod-eq_of_lt hy

-- the bits below k are those of the remainder
pub bit-of-remainder : (x k i : ℕ) → i < k → bit (x % 2 ^ k) i ≡ bit x i
bit-of-remainder x k i h =
    let j : ℕ = k - (i + 1) in
    let e : k ≡ (j + 1) + i = omega arith in
    ap (λ (n : ℕ). x % 2 ^ n / 2 ^ i % 2) e ∙ ap (λ (n : ℕ). n % 2) (field x (j + 1) i) ∙ mod-mod-pow (x / 2 ^ i) j 1

pub bit-of-shift : (x k i : ℕ) → bit (x * 2 ^ k) (k + i) ≡ bit x i
bit-of-shift x k i = ap (λ (n : ℕ). n % 2) (sym (shr-shr (x * 2 ^ k) k i) ∙ ap (λ (n : ℕ). n / 2 ^ i) (shl-shr x k))

-- the bits below k of a number put together from two parts
pub bit-of-low-part : (x k r i : ℕ) → r < 2 ^ k → i < k → bit (x * 2 ^ k + r) i ≡ bit r i
bit-of-low-part x k r i hr h = sym (bit-of-remainder (x * 2 ^ k + r) k i h) ∙ ap (λ (n : ℕ). bit n i) (low x k hr)

pub bit-below-shift : (x k i : ℕ) → i < k → bit (x * 2 ^ k) i ≡ 0
bit-below-shift x k i h = ap (λ (n : ℕ). bit n i) (sym (add-zero (x * 2 ^ k))) ∙ bit-of-low-part x k 0 i (pow_pos k) h ∙ zero_bit i
  where
    zero_bit : (n : ℕ) → 0 / 2 ^ n % 2 ≡ 0
    zero_bit n = ap (λ (m : ℕ). m % 2) (native.Mathlib.Nat.zero-div (2 ^ n))

pub of_bits-lt : (f : ℕ → ℕ) (n : ℕ) → ((i : ℕ) → f i < 2) → of_bits f n < 2 ^ n
unfolding of_bits
of_bits-lt f zero h = zero-lt-suc zero
of_bits-lt f (suc n) h =
    rw (native.Mathlib.Nat.pow-succ' 2 n) (digits_lt (h n) (of_bits-lt f n h))

pub bit-of-of_bits : (f : ℕ → ℕ) (n : ℕ) → ((i : ℕ) → f i < 2) → (i : ℕ) → i < n → bit (of_bits f n) i ≡ f i
unfolding of_bits
bit-of-of_bits f zero h i l = absurd (native.Mathlib.Nat.not-suc-le-zero l)
bit-of-of_bits f (suc n) h i l = go (λ p. bit-of-of_bits f n h i p) (native.Mathlib.Decide.dec_lt i n)
  where
    go : (i < n → bit (of_bits f n) i ≡ f i) → Dec (i < n) → bit (f n * 2 ^ n + of_bits f n) i ≡ f i
    go ih (yes p) = bit-of-low-part (f n) n (of_bits f n) i (of_bits-lt f n h) p ∙ ih p
    go ih (no q) =
        let e : i ≡ n = omega arith in
        rw e (ap (λ (m : ℕ). m % 2) (high (f n) n (of_bits-lt f n h)) ∙ mod-eq_of_lt (h n))

-- `x % 2 * 65535` is a word of sixteen times that bit
pub bit-of-spread : (x i : ℕ) → i < 16 → bit (x % 2 * 65535) i ≡ x % 2
bit-of-spread x i h =
    eqb→eq (bit (x % 2 * 65535) i) (x % 2)
    (every-at (λ k. eqb (bit (x % 2 * 65535) k) (x % 2)) 16
    (every-at (λ v. every (λ k. eqb (bit (v * 65535) k) v) 16) 2 tt (x % 2) (mod-lt x (lit< tt))) i h)

-- what holds of 0 and of 1 holds of a bit
pub bit-cases : (P : ℕ → Type 0) → P 0 → P 1 → (n : ℕ) → n < 2 → P n
bit-cases P p q zero h = p
bit-cases P p q (suc zero) h = q
bit-cases P p q (suc (suc n)) h = absurd (native.Mathlib.Nat.not-suc-le-zero (native.Mathlib.Nat.le_of_suc-le-suc (native.Mathlib.Nat.le_of_suc-le-suc h)))

lt_pow_self : (k : ℕ) → k < 2 ^ k
lt_pow_self zero = zero-lt-suc zero
lt_pow_self (suc k) = native.Mathlib.Nat.lt_of_le_of_lt (lt_pow_self k) (lib.Pow.pow-lt (native.Mathlib.Nat.lt-suc_self k))

pub bits-are-enough-at-any-width : (x y : ℕ) → ((i : ℕ) → bit x i ≡ bit y i) → x ≡ y
bits-are-enough-at-any-width x y e =
    bits-are-enough (x + y) x y (native.Mathlib.Nat.lt_of_le_of_lt (omega arith) (lt_pow_self (x + y)))
    (native.Mathlib.Nat.lt_of_le_of_lt (omega arith) (lt_pow_self (x + y))) (λ i h. e i)

again-bit : (a b : ℕ) → a < 2 → b < 2 → bit_and (bit_and a b) b ≡ bit_and a b
again-bit a b ha hb =
    bit-cases (λ a. bit_and (bit_and a b) b ≡ bit_and a b) (bit-cases (λ b. bit_and (bit_and 0 b) b ≡ bit_and 0 b) refl refl b hb)
    (bit-cases (λ b. bit_and (bit_and 1 b) b ≡ bit_and 1 b) refl refl b hb) a ha

-- what was masked is masked
pub and_again : (a b : ℕ) → bit_and (bit_and a b) b ≡ bit_and a b
and_again a b =
    bits-are-enough-at-any-width (bit_and (bit_and a b) b) (bit_and a b)
    (λ i. simp bit-of-and (again-bit (bit a i) (bit b i) (bit-lt a i) (bit-lt b i)))

assoc-bit : (a b c : ℕ) → a < 2 → b < 2 → c < 2 → bit_xor (bit_xor a b) c ≡ bit_xor a (bit_xor b c)
assoc-bit a b c ha hb hc =
    bit-cases (λ a. bit_xor (bit_xor a b) c ≡ bit_xor a (bit_xor b c)) refl
    (bit-cases (λ b. bit_xor (bit_xor 1 b) c ≡ bit_xor 1 (bit_xor b c)) refl (bit-cases (λ c. bit_xor 0 c ≡ bit_xor 1 (bit_xor 1 c)) refl refl c hc) b hb) a ha

pub xor_assoc : (a b c : ℕ) → bit_xor (bit_xor a b) c ≡ bit_xor a (bit_xor b c)
xor_assoc a b c =
    bits-are-enough-at-any-width (bit_xor (bit_xor a b) c) (bit_xor a (bit_xor b c))
    (λ i. simp bit-of-xor (assoc-bit (bit a i) (bit b i) (bit c i) (bit-lt a i) (bit-lt b i) (bit-lt c i)))

-- a run's words have 16 bits with one of 16 bits put among them, and after the first
pub SixteenBits-of-set : (run : List ℕ) (at word : ℕ) → SixteenBits run → word < 65536 → SixteenBits (set run at word)
SixteenBits-of-set run at word all small place = by_place (eqb at place) refl (dec_lt at (length run))
  where
    by_place : (here : Bool) → eqb at place ≡ here → Dec (at < length run) → get_or (set run at word) place 0 < 65536
    by_place false apart inside = rw (get_or-set_other run at place word 0 (λ same. eqb-false at place apart (sym same))) (all place)
    by_place true same (yes inside) = rw (← eqb-true at place same, get_or-set_same run at word 0 inside) small
    by_place true same (no outside) = rw (set_out run at word (omega arith)) (all place)

pub SixteenBits-of-rest : (first : ℕ) (rest : List ℕ) → SixteenBits (first ∷ rest) → SixteenBits rest
SixteenBits-of-rest first rest all place = all (suc place)
