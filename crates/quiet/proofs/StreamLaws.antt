-- Laws of a blit's words as a sequence: their numbers, where a channel stands, and words laid in order.
use Rattle.word.proofs.Base.{◌≡◌, refl, sym, ap, ◌∙◌, ℕ, zero, suc, ◌+◌, ◌*◌, ◌/◌, ◌%◌, ◌<◌, mod-eq_of_lt, dec_lt, arith}
use Rattle.word.proofs.Base.{Bool, true, false, eqb, eq-eqb, ne_eqb, List, length, get_or, set, length-set, get_or-set_same}
use Rattle.word.proofs.Base.{get_or-set_other}
use native.Mathlib.Nat.{mul-add-div_right, mul-add-mod_self_right, div-eq_of_lt}
use Rattle.word.specs.declared.types.Direction.{Direction}
use Rattle.word.specs.declared.types.Pointer.{Pointer}
use Rattle.word.specs.declared.types.Fill.{Fill}
use Rattle.word.specs.Repeat.{repeated}
use Rattle.word.specs.Pointer.{moved, next_row}
use Rattle.area.specs.Move.{stepped, turned}
use Rattle.quiet.specs.Words.{carry_to, filled_at}
use Rattle.quiet.specs.Stream.{standing, laid_at}

-- one step more comes last as well as first
pub repeated-last : {State : Type 0} (step : State → State) (n : ℕ) (state : State)
    → repeated (λ _. step) (suc n) state ≡ step (repeated (λ _. step) n state)
unfolding repeated
repeated-last step zero state = refl
repeated-last step (suc n) state = repeated-last step n (step state)

-- the row and the word in it of word k
pub row_of : (width row word k : ℕ) → word < width → k ≡ row * width + word → k / width ≡ row
row_of width row word k short is =
    ap (λ (k : ℕ). k / width) is
    ∙ mul-add-div_right {m = width} (omega arith) row word
    ∙ ap (λ (more : ℕ). row + more) (div-eq_of_lt short)
    ∙ omega arith

pub word_of : (width row word k : ℕ) → word < width → k ≡ row * width + word → k % width ≡ word
word_of width row word k short is =
    ap (λ (k : ℕ). k % width) is
    ∙ mul-add-mod_self_right row width word
    ∙ mod-eq_of_lt short

-- the carry that comes to the first word of a row, and to another
pub carry_to-first : (fill : Fill) (start width k : ℕ) (word : ℕ → ℕ) → k % width ≡ 0 → carry_to fill start width word k ≡ start
unfolding carry_to
carry_to-first fill start width zero word first = refl
carry_to-first fill start width (suc k) word first = rw (eq-eqb (suc k % width) 0 first)

pub carry_to-next : (fill : Fill) (start width k : ℕ) (word : ℕ → ℕ) → (suc k % width ≡ 0 → ⊥) → carry_to fill start width word (suc k) ≡ (filled_at fill start width word k).carry
unfolding carry_to filled_at
carry_to-next fill start width k word on = rw (ne_eqb (suc k % width) 0 on)

-- a word on, and a row on
module _ (direction : Direction) (width modulo row : ℕ) (pointer : Pointer) where
  pub standing-steps : (used : Bool) (word : ℕ)
      → stepped direction used (standing direction used width modulo row word pointer)
      ≡ standing direction used width modulo row (suc word) pointer
  unfolding standing stepped
  standing-steps true word = sym (repeated-last (moved direction) word (repeated (λ _. next_row direction width modulo) row pointer))
  standing-steps false word = refl

  pub standing-turns : (used : Bool)
      → turned direction used modulo (standing direction used width modulo row width pointer)
      ≡ standing direction used width modulo (suc row) 0 pointer
  unfolding standing turned repeated next_row
  standing-turns true = sym (repeated-last (next_row direction width modulo) row pointer)
  standing-turns false = refl

pub standing-starts : (direction : Direction) (used : Bool) (width modulo : ℕ) (pointer : Pointer)
    → standing direction used width modulo 0 0 pointer ≡ pointer
unfolding standing repeated
standing-starts direction true width modulo pointer = refl
standing-starts direction false width modulo pointer = refl

-- the first and the last word of a row
pub is-first : (remaining word width : ℕ) → remaining + 1 + word ≡ width → eqb (remaining + 1) width ≡ eqb word 0
is-first remaining zero width all = eq-eqb (remaining + 1) width (omega arith)
is-first remaining (suc word) width all =
    ne_eqb (remaining + 1) width (λ same. absurd (omega arith)) ∙ sym (ne_eqb (suc word) 0 (λ same. absurd (omega arith)))

pub is_last : (remaining word width : ℕ) → remaining + 1 + word ≡ width → eqb remaining 0 ≡ eqb (word + 1) width
is_last zero word width all = sym (eq-eqb (word + 1) width (omega arith))
is_last (suc remaining) word width all =
    ne_eqb (suc remaining) 0 (λ same. absurd (omega arith)) ∙ sym (ne_eqb (word + 1) width (λ same. absurd (omega arith)))

-- where no word was laid, memory is as it was
pub laid_at-elsewhere : (place word : ℕ → ℕ) (n : ℕ) (memory : List ℕ) (at : ℕ) → ((j : ℕ) → j < n → place j ≡ at → ⊥)
    → get_or (laid_at place word n memory) at 0 ≡ get_or memory at 0
unfolding laid_at
laid_at-elsewhere place word zero memory at apart = refl
laid_at-elsewhere place word (suc n) memory at apart =
    get_or-set_other (laid_at place word n memory) (place n) at (word n) 0 (λ same. apart n (omega arith) (sym same))
    ∙ laid_at-elsewhere place word n memory at (λ j below. apart j (omega arith))

-- words laid at different places inside memory are found there
laid_at-keeps-length : (place word : ℕ → ℕ) (n : ℕ) (memory : List ℕ) → length (laid_at place word n memory) ≡ length memory
unfolding laid_at
laid_at-keeps-length place word zero memory = refl
laid_at-keeps-length place word (suc n) memory =
    length-set (laid_at place word n memory) (place n) (word n) ∙ laid_at-keeps-length place word n memory

pub laid_at-found : (place word : ℕ → ℕ) (n : ℕ) (memory : List ℕ)
    → ((k : ℕ) → k < n → place k < length memory) → ((i j : ℕ) → i < n → j < i → place i ≡ place j → ⊥)
    → (k : ℕ) → k < n → get_or (laid_at place word n memory) (place k) 0 ≡ word k
unfolding laid_at
laid_at-found place word zero memory inside apart k within = absurd (omega arith)
laid_at-found place word (suc n) memory inside apart k within =
    by_order (dec_lt k n) (laid_at-found place word n memory (λ i below. inside i (omega arith)) (λ i j below. apart i j (omega arith)) k)
  where
    by_order : Dec (k < n) → (k < n → get_or (laid_at place word n memory) (place k) 0 ≡ word k)
        → get_or (set (laid_at place word n memory) (place n) (word n)) (place k) 0 ≡ word k
    by_order (yes earlier) before =
        get_or-set_other (laid_at place word n memory) (place n) (place k) (word n) 0 (λ same. apart n k (omega arith) earlier (sym same)) ∙ before earlier
    by_order (no later) before =
        let last : k ≡ n = omega arith in
        rw last
        (get_or-set_same (laid_at place word n memory) (place n) (word n) 0 (rw (laid_at-keeps-length place word n memory) (inside n (omega arith))))
