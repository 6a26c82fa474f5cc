-- Laws of the register file: what a register keeps, and when a file is accepted.
use Rattle.word.proofs.Base.{◌≡◌, refl, sym, ap, subst, ◌∙◌, ℕ, ◌+◌, ◌-◌, ◌*◌, ◌/◌, ◌%◌, ◌^◌, ◌<◌, ◌≤◌, mod-eq_of_lt}
use Rattle.word.proofs.Base.{arith, Bool, true, false, ◌&&◌, T, eqb, ltb, eqb→eq, eq-eqb, ne_eqb, eqb-true, eqb-false}
use Rattle.word.proofs.Base.{List, length, get_or, set, length-set, get_or-set_same, get_or-set_other}
use native.Mathlib.Nat.{lt_of_le_of_lt}
use lib.Dec.{ltb→lt}
use lib.Bits.{and_le_r, and_mask, and_high}
use Rattle.word.specs.declared.types.Pointer.{Pointer}
use Rattle.word.specs.Choice.{every}
use Rattle.word.specs.Pointer.{high, low}
use Rattle.word.proofs.ChoiceLaws.{and_left, and_right, every-at, every-of-each, every-of-sum}
use Rattle.word.proofs.WordLaws.{and_again}
use Rattle.file.specs.File.{registers, kept_bits, kept, kept_at, accepted}
use Rattle.file.specs.Places.{file_length, colour_count, colour0, flag}

-- the bits kept at places that a rule counts, by one computed test
pub kept_bits-by : (places : ℕ → ℕ) (many word k place : ℕ) → T (every (λ (k : ℕ). eqb word (get_or kept_bits (places k) 0)) many)
    → k < many → places k ≡ place → word ≡ get_or kept_bits place 0
kept_bits-by places many word k place all inside there =
    eqb→eq _ _ (every-at (λ (k : ℕ). eqb word (get_or kept_bits (places k) 0)) many all k inside)
    ∙ ap (λ (at : ℕ). get_or kept_bits at 0) there

-- the same of places from one on and before another
pub kept_bits-in-run : (from to word : ℕ) → T (every (λ (k : ℕ). eqb word (get_or kept_bits (from + k) 0)) (to - from))
    → (place : ℕ) → from ≤ place → place < to → word ≡ get_or kept_bits place 0
kept_bits-in-run from to word all place after before =
    kept_bits-by (λ (k : ℕ). from + k) (to - from) word (place - from) place all (omega (arith, after, before)) (omega (arith, after))

pub kept_bits-of-colour : (place : ℕ) → colour0 ≤ place → place < flag → 0x0FFF ≡ get_or kept_bits place 0
unfolding kept_bits registers
kept_bits-of-colour place from to = kept_bits-in-run colour0 flag 0x0FFF tt place from to

pub accepted-of-length : (file : List ℕ) → (length file ≡ file_length → ⊥) → false ≡ accepted file
unfolding accepted
accepted-of-length file other = rw (ne_eqb (length file) file_length other)

-- the flag, the colours and the words before them
pub accepted-of-parts : (file : List ℕ) (word : ℕ) (colours first : Bool) → length file ≡ file_length
    → word ≡ kept flag (get_or file flag 0)
    → colours ≡ every (λ (colour : ℕ). kept_at file (colour0 + colour)) colour_count
    → first ≡ every (kept_at file) colour0
    → (eqb word (get_or file flag 0) && (colours && first)) ≡ accepted file
unfolding accepted kept_at
accepted-of-parts file word colours first long of-flag of-colours of-first =
    rw (eq-eqb (length file) file_length long, of-flag, of-colours, of-first)
    (ap (λ (rest : Bool). eqb (kept flag (get_or file flag 0)) (get_or file flag 0) && rest) (every-of-sum (kept_at file) colour0 colour_count))

-- what a place keeps of a word: of what it has kept, all; of a word of so many bits as it keeps from bit 0 on, all
pub kept_again : (place value : ℕ) → kept place (kept place value) ≡ kept place value
unfolding kept
kept_again place value = and_again value (get_or kept_bits place 0)

pub kept-of-bits : (place word k : ℕ) → get_or kept_bits place 0 ≡ 2 ^ k - 1 → word < 2 ^ k → kept place word ≡ word
unfolding kept
kept-of-bits place word k all small = rw all (and_mask word k ∙ mod-eq_of_lt small)

-- of the halves of a pointer, at the places that keep "high 2-0, low 15-1"
pub kept-of-high : (place : ℕ) (to : Pointer) → get_or kept_bits place 0 ≡ 0x0007 → kept place (high to) ≡ high to
kept-of-high place to bits = kept-of-bits place (high to) 3 bits (omega arith)

pub kept-of-low : (place : ℕ) (to : Pointer) → get_or kept_bits place 0 ≡ 0xFFFE → kept place (low to) ≡ low to
unfolding kept
kept-of-low place to bits = rw bits (and_high (low to) 15 1 ∙ half_twice (to.word % 32768) (omega arith))
  where
    half_twice : (n : ℕ) → n < 32768 → n * 2 / 2 % 32768 * 2 ≡ n * 2
    half_twice n small = omega arith

-- of an even word, at a place that keeps "15-1"
pub kept-of-even : (place word : ℕ) → get_or kept_bits place 0 ≡ 0xFFFE → word % 2 ≡ 0 → word < 65536 → kept place word ≡ word
unfolding kept
kept-of-even place word bits even small = rw bits (and_high word 15 1 ∙ whole word even small)
  where
    whole : (word : ℕ) → word % 2 ≡ 0 → word < 65536 → word / 2 % 32768 * 2 ≡ word
    whole word even small = omega arith

-- a place holds its bits by the word that stands there
pub kept_at-of-word : (file : List ℕ) (place word : ℕ) → word ≡ get_or file place 0 → kept place word ≡ word → kept_at file place ≡ true
unfolding kept_at
kept_at-of-word file place word is keeps = rw (← is) (eq-eqb (kept place word) word keeps)

-- what a file has that is accepted
module _ (file : List ℕ) (fine : accepted file ≡ true) where
  pub accepted-has-length : length file ≡ file_length
  unfolding accepted
  accepted-has-length = eqb-true (length file) file_length (and_left (eqb (length file) file_length) (every (kept_at file) file_length) fine)

  accepted-keeps : (place : ℕ) → place < file_length → kept place (get_or file place 0) ≡ get_or file place 0
  unfolding accepted kept_at
  accepted-keeps place inside =
      eqb→eq _ _ (every-at (kept_at file) file_length (rw (and_right (eqb (length file) file_length) (every (kept_at file) file_length) fine) tt) place inside)

  -- every word of it is one of 16 bits
  pub accepted-word-lt : (place : ℕ) → place < file_length → get_or file place 0 < 65536
  unfolding kept kept_bits registers
  accepted-word-lt place inside =
      subst (λ (word : ℕ). word < 65536) (accepted-keeps place inside)
      (lt_of_le_of_lt (and_le_r (get_or file place 0) (get_or kept_bits place 0))
      (ltb→lt (get_or kept_bits place 0) 65536 (every-at (λ (k : ℕ). ltb (get_or kept_bits k 0) 65536) file_length tt place inside)))

  -- and even where "15-1" are kept
  pub accepted-even : (place : ℕ) → place < file_length → get_or kept_bits place 0 ≡ 0xFFFE → get_or file place 0 % 2 ≡ 0
  unfolding kept
  accepted-even place inside bits =
      twice (get_or file place 0) (sym (and_high (get_or file place 0) 15 1) ∙ (rw bits at (accepted-keeps place inside)))
    where
      twice : (word : ℕ) → word / 2 % 32768 * 2 ≡ word → word % 2 ≡ 0
      twice word same = omega arith

  -- a word put to a place that keeps it
  pub accepted-of-set : (at word : ℕ) → kept at word ≡ word → accepted (set file at word) ≡ true
  unfolding accepted
  accepted-of-set at word keeps =
      rw (eq-eqb (length (set file at word)) file_length (length-set file at word ∙ accepted-has-length))
      (every-of-each (kept_at (set file at word)) file_length (λ place inside. by_place place inside (eqb at place) refl))
    where
      by_place : (place : ℕ) → place < file_length → (here : Bool) → eqb at place ≡ here → kept_at (set file at word) place ≡ true
      by_place place inside false apart =
          kept_at-of-word (set file at word) place (get_or file place 0)
          (sym (get_or-set_other file at place word 0 (λ same. eqb-false at place apart (sym same)))) (accepted-keeps place inside)
      by_place place inside true same =
          let here : at ≡ place = eqb-true at place same in
          kept_at-of-word (set file at word) place word
          (rw (← here) (sym (get_or-set_same file at word 0 (omega (arith, inside, here, accepted-has-length))))) (rw (← here) keeps)
