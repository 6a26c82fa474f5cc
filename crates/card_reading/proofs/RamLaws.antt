-- Laws of a card's first line: its digits one by one, and what they give.
use Rattle.std.specs.Prelude.{Option, Some, None, if◌then◌else◌}
use Rattle.word.proofs.Base.{◌≡◌, refl, sym, ap, ◌∙◌, ℕ, zero, suc, ◌+◌, ◌<◌, ◌≤◌, dec_lt, arith, Bool, true, false}
use Rattle.word.proofs.Base.{◌&&◌, not, eqb, leb, ne_eqb, eqb-true, le-leb, lt-leb, leb-true, List, [], ◌∷◌, length}
use Rattle.word.proofs.Base.{get_or, drop, List·get_or-eq-default, drop_of_length-le, drop-cons}
use Prim.Native.Char.{code}
use Rattle.word.proofs.ChoiceLaws.{and_left, and_right, and_none}
use Rattle.card_reading.specs.declared.types.Ram.{Ram}
use Rattle.card_reading.specs.Text.{newline, byte, decimal_digit}
use Rattle.card_reading.specs.RamLine.{digits, with_digit, spelled, ram_words, ram_end, ram_key, ram_line}
use Rattle.card_reading.specs.Inner.Ram.{ram, ram_read, ram_ended}

-- the digits ended
pub ram_ended-when-none : (text : List ℕ) (at words : ℕ) → words ≡ 0 → ◌≡◌ {A = Option Ram} None (ram_ended text at words)
unfolding ram_ended
ram_ended-when-none text at words none = rw none

pub ram_ended-at-end : (text : List ℕ) (at words : ℕ) → length text ≤ at → ◌≡◌ {A = Option Ram} None (ram_ended text at words)
unfolding ram_ended
ram_ended-at-end text at words past = rw (List·get_or-eq-default text 0 past, and_none (leb 1 words))

pub ram_ended-when-newline : (text : List ℕ) (at words : ℕ) → (words ≡ 0 → ⊥) → get_or text at 0 ≡ 10
    → Some (ram words (at + 1)) ≡ ram_ended text at words
unfolding ram_ended
ram_ended-when-newline text at words some is =
    let reached : leb 1 words ≡ true = le-leb 1 words (some-le words some) in
    rw (reached, is)
  where
    some-le : (words : ℕ) → (words ≡ 0 → ⊥) → 1 ≤ words
    some-le zero some = absurd (some refl)
    some-le (suc words) some = omega arith

pub ram_ended-when-other : (text : List ℕ) (at words : ℕ) → (get_or text at 0 ≡ 10 → ⊥) → ◌≡◌ {A = Option Ram} None (ram_ended text at words)
unfolding ram_ended
ram_ended-when-other text at words other = rw (ne_eqb (byte text at) newline other, and_none (leb 1 words))

-- the digits from a place on
module _ (text : List ℕ) (at here : ℕ) (is : here ≡ get_or text at 0) (digit : Bool) (is_digit : digit ≡ decimal_digit here) where
  split : at < length text → drop at text ≡ here ∷ drop (at + 1) text
  split inside =
      let same : suc at ≡ at + 1 = omega arith in
      drop-cons text at 0 inside ∙ rw (← is, same)

  digits-when-digit : at < length text → digit ≡ true → digits (drop at text) ≡ here ∷ digits (drop (at + 1) text)
  unfolding digits
  digits-when-digit inside holds = rw (split inside, ← is_digit, holds)

  pub digits-when-other : at < length text → digit ≡ false → digits (drop at text) ≡ []
  unfolding digits
  digits-when-other inside fails = rw (split inside, ← is_digit, fails)

  pub spelled-turn : (words next whole : ℕ) → at < length text → digit ≡ true → next ≡ with_digit words here
      → spelled words (digits (drop at text)) ≡ whole → spelled next (digits (drop (at + 1) text)) ≡ whole
  unfolding spelled
  spelled-turn words next whole inside holds grows so_far =
      rw grows (sym (ap (spelled words) (digits-when-digit inside holds)) ∙ so_far)

  pub digits-turn : (end : ℕ) → at < length text → digit ≡ true → at + length (digits (drop at text)) ≡ end
      → at + 1 + length (digits (drop (at + 1) text)) ≡ end
  digits-turn end inside holds so_far = omega (arith, ap length (digits-when-digit inside holds), so_far)

pub digits-at-end : (text : List ℕ) (at : ℕ) → length text ≤ at → digits (drop at text) ≡ []
unfolding digits
digits-at-end text at past = rw (drop_of_length-le text past)

pub spelled-ge : (before : ℕ) (digits : List ℕ) → before ≤ spelled before digits
unfolding spelled
spelled-ge before [] = omega arith
spelled-ge before (byte ∷ rest) = omega (arith, spelled-ge (with_digit before byte) rest)

-- a number that is too large stays so
ram_read-when-far : (text : List ℕ) → 32768 < ram_words text → None ≡ ram_read text
unfolding ram_read ram_line
ram_read-when-far text far =
    rw (lt-leb (ram_words text) 32768 far, and_none (ram_key text && not (eqb (byte text 4) (code "0")) && leb 1 (ram_words text)))

pub ram_read-when-large : (text : List ℕ) (at here : ℕ) (digit : Bool) (words next : ℕ)
    → here ≡ get_or text at 0 → digit ≡ decimal_digit here → at < length text → digit ≡ true → next ≡ with_digit words here
    → 32768 < next → spelled words (digits (drop at text)) ≡ ram_words text → None ≡ ram_read text
ram_read-when-large text at here digit words next is is_digit inside holds grows large so_far =
    let later = spelled-turn text at here is digit is_digit words next (ram_words text) inside holds grows so_far in
    ram_read-when-far text (omega (arith, large, later, spelled-ge next (digits (drop (at + 1) text))))

-- the whole line
module _ (text : List ℕ) (is : Bool) (of-key : is ≡ ram_key text) where
  pub ram_read-when-keyless : is ≡ false → None ≡ ram_read text
  unfolding ram_read ram_line
  ram_read-when-keyless fails = rw (← of-key, fails)

  module _ (named : is ≡ true) (first : ℕ) (of-first : first ≡ get_or text 4 0) where
    pub ram_read-when-zero : first ≡ code "0" → None ≡ ram_read text
    unfolding ram_read ram_line
    ram_read-when-zero same = rw (← of-key, named, ← of-first, same)

    module _ (other : first ≡ code "0" → ⊥) where
      ended : (at words : ℕ) → words ≤ 32768 → words ≡ ram_words text → at ≡ ram_end text → ram_ended text at words ≡ ram_read text
      unfolding ram_read ram_line ram_ended
      ended at words small same here =
          rw (← of-key, named, ← of-first, ne_eqb first (code "0") other, ← same, ← here, le-leb words 32768 small)
          (by-test (leb 1 words))
        where
          by-test : (some : Bool)
              → (if some && eqb (byte text at) newline then Some (ram words (at + 1)) else None)
              ≡ (if some && true && eqb (byte text at) newline then Some (ram words (at + 1)) else None)
          by-test true = refl
          by-test false = refl

      pub ram_read-when-ended : (at words : ℕ) (read : Option Ram) → words ≤ 32768 → spelled words (digits (drop at text)) ≡ ram_words text
          → at + length (digits (drop at text)) ≡ ram_end text → digits (drop at text) ≡ [] → read ≡ ram_ended text at words
          → read ≡ ram_read text
      unfolding spelled
      ram_read-when-ended at words read small so_far to none is =
          is
          ∙ ended at words small (sym (ap (spelled words) none) ∙ so_far) (omega (arith, ap length none, to))

-- what a good first line says
pub record RamIs (text : List ℕ) (words start : ℕ) : Type 0 where
  pub good : ram_line text ≡ true
  pub many : words ≡ ram_words text
  pub next : start ≡ ram_end text + 1
  pub small : words ≤ 32768
  pub inside : start ≤ length text

ram_end-lt : (text : List ℕ) → ram_line text ≡ true → ram_end text < length text
unfolding ram_line
ram_end-lt text good = by_order (dec_lt (ram_end text) (length text))
  where
    is : byte text (ram_end text) ≡ newline
    is = eqb-true _ _ (and_right (ram_key text && not (eqb (byte text 4) (code "0")) && leb 1 (ram_words text) && leb (ram_words text) 32768) _ good)

    by_order : Dec (ram_end text < length text) → ram_end text < length text
    by_order (yes within) = within
    by_order (no past) =
        let none : byte text (ram_end text) ≡ 0 = List·get_or-eq-default text 0 (omega (arith, past)) in
        absurd (omega (arith, is, none))

pub ram_words-le : (text : List ℕ) → ram_line text ≡ true → ram_words text ≤ 32768
unfolding ram_line
ram_words-le text good =
    leb-true _ _
    (and_right (ram_key text && not (eqb (byte text 4) (code "0")) && leb 1 (ram_words text)) _
    (and_left (ram_key text && not (eqb (byte text 4) (code "0")) && leb 1 (ram_words text) && leb (ram_words text) 32768) _ good))

pub ram_read-of-words : (text : List ℕ) (words start : ℕ) → Some (ram words start) ≡ ram_read text → RamIs text words start
unfolding ram_read
ram_read-of-words text words start reads = by-test (ram_line text) refl reads
  where
    by-test : (good : Bool) → ram_line text ≡ good
        → Some (ram words start) ≡ (if good then Some (ram (ram_words text) (ram_end text + 1)) else None) → RamIs text words start
    by-test true good same =
        let parts : ram words start ≡ ram (ram_words text) (ram_end text + 1) = cc in
        let many : words ≡ ram_words text = ap (λ (read : Ram). read.words) parts in
        let next : start ≡ ram_end text + 1 = ap (λ (read : Ram). read.start) parts in
        record {
          good = good;
          many = many;
          next = next;
          small = omega (arith, many, ram_words-le text good);
          inside = omega (arith, next, ram_end-lt text good);
        }
    by-test false bad same = let n : ◌≡◌ {A = ℕ} 0 1 = cc in absurd (omega arith)

pub ram_read-of-bad : (text : List ℕ) → None ≡ ram_read text → ram_line text ≡ false
unfolding ram_read
ram_read-of-bad text reads = by-test (ram_line text) refl reads
  where
    by-test : (good : Bool) → ram_line text ≡ good
        → None ≡ (if good then Some (ram (ram_words text) (ram_end text + 1)) else None) → good ≡ false
    by-test true good same = let n : ◌≡◌ {A = ℕ} 0 1 = cc in absurd (omega arith)
    by-test false bad same = refl
