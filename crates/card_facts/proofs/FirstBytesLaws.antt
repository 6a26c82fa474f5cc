-- The first bytes of a text decide: a good first line is short, and the lines after it have ten bytes each.
use Rattle.std.specs.Prelude.{if◌then◌else◌}
use Rattle.word.proofs.Base.{◌≡◌, refl, sym, ap, ◌∙◌, ℕ, zero, suc, ◌+◌, ◌*◌, ◌<◌, ◌≤◌, dec_lt, arith, Bool, true, false}
use Rattle.word.proofs.Base.{◌&&◌, not, eqb, leb, ne_eqb, eqb-false, not-true, List, [], ◌∷◌, ◌++◌, length, get_or, take}
use Rattle.word.proofs.Base.{drop, length-append, length-take-le}
use Prim.Native.Char.{code}
use lib.ListN.{length-drop, take-append-drop, get_or-append}
use lib.Seq.{take_all, drop-append-le, get_or-drop}
use Rattle.word.proofs.ChoiceLaws.{and_left, and_right}
use Rattle.card_reading.specs.Text.{byte, decimal_digit}
use Rattle.card_reading.specs.RamLine.{digits, with_digit, spelled, ram_words, ram_end, ram_key, ram_line}
use Rattle.card_reading.specs.Reading.{key_at, word_at, key_line, bad_from, bad_line}
use Rattle.card_text.specs.Card.{printed}
use Rattle.card_facts.specs.FirstBytesDecide.{FirstBytesDecide}
use Rattle.card_reading.proofs.TextLaws.{decimal_digit-ge}
use Rattle.card_reading.proofs.ReadingLaws.{bad_from-of-none}
use Rattle.card_reading.proofs.RamLaws.{spelled-ge, ram_words-le}

-- the first of the digits is the first byte
digits-first : (text : List ℕ) (first : ℕ) (rest : List ℕ) → digits text ≡ first ∷ rest → (get_or text 0 0 ≡ first) × (code "0" ≤ first)
unfolding digits
digits-first [] first rest same = let n : ◌≡◌ {A = ℕ} 0 1 = cc in absurd (omega arith)
digits-first (here ∷ text) first rest same = by-test (decimal_digit here) refl same
  where
    by-test : (digit : Bool) → decimal_digit here ≡ digit → (if digit then here ∷ digits text else []) ≡ first ∷ rest
        → (here ≡ first) × (code "0" ≤ first)
    by-test true is same =
        let one : here ≡ first = cc in
        (one, omega (arith, one, decimal_digit-ge here (decimal_digit here) refl is))
    by-test false is same = let n : ◌≡◌ {A = ℕ} 0 1 = cc in absurd (omega arith)

-- a number of six digits that doesn't begin with 0 is too large
digits-few : (list : List ℕ) → ((first : ℕ) (rest : List ℕ) → list ≡ first ∷ rest → code "1" ≤ first) → spelled 0 list ≤ 32768 → length list ≤ 5
unfolding spelled
digits-few [] large small = omega arith
digits-few (a ∷ []) large small = omega arith
digits-few (a ∷ b ∷ []) large small = omega arith
digits-few (a ∷ b ∷ c ∷ []) large small = omega arith
digits-few (a ∷ b ∷ c ∷ d ∷ []) large small = omega arith
digits-few (a ∷ b ∷ c ∷ d ∷ e ∷ []) large small = omega arith
digits-few (a ∷ b ∷ c ∷ d ∷ e ∷ f ∷ rest) large small =
    let first : code "1" ≤ a = large a (b ∷ c ∷ d ∷ e ∷ f ∷ rest) refl in
    let grows = spelled-ge (with_digit (with_digit (with_digit (with_digit (with_digit (with_digit 0 a) b) c) d) e) f) rest in
    absurd (omega (arith, first, grows, small))

ram_line-unlike-zero : (text : List ℕ) → ram_line text ≡ true → eqb (byte text 4) (code "0") ≡ false
unfolding ram_line
ram_line-unlike-zero text good =
    not-true _ (and_right (ram_key text) _ (and_left (ram_key text && not (eqb (byte text 4) (code "0"))) (leb 1 (ram_words text))
    (and_left (ram_key text && not (eqb (byte text 4) (code "0")) && leb 1 (ram_words text)) (leb (ram_words text) 32768)
    (and_left (ram_key text && not (eqb (byte text 4) (code "0")) && leb 1 (ram_words text) && leb (ram_words text) 32768) _ good))))

first-is-large : (text : List ℕ) (first : ℕ) → get_or text 4 0 ≡ first → code "0" ≤ first → eqb (byte text 4) (code "0") ≡ false → code "1" ≤ first
first-is-large text first here digit other = by_order (dec_lt (code "0") first)
  where
    by_order : Dec (code "0" < first) → code "1" ≤ first
    by_order (yes more) = more
    by_order (no few) = absurd (eqb-false (byte text 4) (code "0") other (omega (arith, here, digit, few)))

ram_line-is-short : (text : List ℕ) → ram_line text ≡ true → length (digits (drop 4 text)) ≤ 5
ram_line-is-short text good =
    digits-few (digits (drop 4 text))
    (λ first rest same.
    let is = digits-first (drop 4 text) first rest same in
    first-is-large text first (sym (get_or-drop 4 text 0 0) ∙ is.0) is.1 (ram_line-unlike-zero text good))
    (ram_words-le text good)

-- a text that begins with another: what is read within the first is read in both
module _ (front more : List ℕ) where
  byte-of-front : (at : ℕ) → at < length front → byte (front ++ more) at ≡ byte front at
  byte-of-front at inside = get_or-append front more 0 at inside

  key_line-of-front : (at key : ℕ) → at + 10 ≤ length front → key_line (front ++ more) at key ≡ key_line front at key
  unfolding key_line key_at word_at
  key_line-of-front at key inside =
      rw (
        byte-of-front at (omega (arith, inside)),
        byte-of-front (at + 1) (omega (arith, inside)),
        byte-of-front (at + 2) (omega (arith, inside)),
        byte-of-front (at + 3) (omega (arith, inside)),
        byte-of-front (at + 4) (omega (arith, inside)),
        byte-of-front (at + 5) (omega (arith, inside)),
        byte-of-front (at + 5 + 1) (omega (arith, inside)),
        byte-of-front (at + 5 + 2) (omega (arith, inside)),
        byte-of-front (at + 5 + 3) (omega (arith, inside)),
        byte-of-front (at + 9) (omega (arith, inside)),
      )

  bad_from-of-front : (at key to_come : ℕ) → at + to_come * 10 < length front → bad_from (front ++ more) at key to_come ≡ bad_from front at key to_come
  unfolding bad_from
  bad_from-of-front at key zero inside =
      rw (
        ne_eqb at (length (front ++ more)) (λ same. omega (arith, same, inside, length-append front more)),
        ne_eqb at (length front) (λ same. omega (arith, same, inside)),
      )
  bad_from-of-front at key (suc to_come) inside =
      rw (key_line-of-front at key (omega (arith, inside)), bad_from-of-front (at + 10) (key + 1) to_come (omega (arith, inside)))

-- the digits stop in the first text, or fill it
digits-of-front : (front more : List ℕ) → length (digits front) < length front → digits (front ++ more) ≡ digits front
unfolding digits
digits-of-front [] more inside = absurd (omega arith)
digits-of-front (here ∷ front) more inside =
    by-test (decimal_digit here) (λ (within : length (digits front) < length front). digits-of-front front more within) inside
  where
    by-test : (digit : Bool) → (length (digits front) < length front → digits (front ++ more) ≡ digits front)
        → length (if digit then here ∷ digits front else []) < suc (length front)
        → (if digit then here ∷ digits (front ++ more) else []) ≡ (if digit then here ∷ digits front else [])
    by-test true later inside = ap (λ (rest : List ℕ). here ∷ rest) (later (omega (arith, inside)))
    by-test false later inside = refl

digits-grow : (front more : List ℕ) → length (digits front) ≤ length (digits (front ++ more))
unfolding digits
digits-grow [] more = omega arith
digits-grow (here ∷ front) more = by-test (decimal_digit here) (digits-grow front more)
  where
    by-test : (digit : Bool) → length (digits front) ≤ length (digits (front ++ more))
        → length (if digit then here ∷ digits front else []) ≤ length (if digit then here ∷ digits (front ++ more) else [])
    by-test true later = omega (arith, later)
    by-test false later = omega arith

-- the first 256 bytes and the rest of a longer text
module _ (front more : List ℕ) (long : length front ≡ 256) where
  after-ram : drop 4 (front ++ more) ≡ drop 4 front ++ more
  after-ram = drop-append-le 4 front more (omega (arith, long))

  bad-of-many : (text : List ℕ) → 5 < length (digits (drop 4 text)) → ram_line text ≡ false
  bad-of-many text many = by-test (ram_line text) refl
    where
      by-test : (good : Bool) → ram_line text ≡ good → good ≡ false
      by-test true good = absurd (omega (arith, many, ram_line-is-short text good))
      by-test false bad = refl

  module _ (stops : length (digits (drop 4 front)) < 252) where
    same_digits : digits (drop 4 (front ++ more)) ≡ digits (drop 4 front)
    same_digits =
        ap digits after-ram
        ∙ digits-of-front (drop 4 front) more (omega (arith, stops, length-drop 4 front, long))

    same-ram_line : ram_line (front ++ more) ≡ ram_line front
    unfolding ram_line ram_key
    same-ram_line =
        rw (
          same_digits,
          byte-of-front front more 0 (omega (arith, long)),
          byte-of-front front more 1 (omega (arith, long)),
          byte-of-front front more 2 (omega (arith, long)),
          byte-of-front front more 3 (omega (arith, long)),
          byte-of-front front more 4 (omega (arith, long)),
          byte-of-front front more (4 + length (digits (drop 4 front))) (omega (arith, long, stops)),
        )

  -- the first bad line is the same, and there is one
  pub record SameBad : Type 0 where
    pub same : bad_line (front ++ more) ≡ bad_line front
    pub some : bad_line front ≡ 0 → ⊥

  both-bad : ram_line (front ++ more) ≡ false → ram_line front ≡ false → SameBad
  unfolding bad_line
  both-bad bad other = record { same = rw (bad, other); some = λ none. absurd (omega (arith, rw other at none)) }

  both-good : length (digits (drop 4 front)) < 252 → ram_line front ≡ true → SameBad
  unfolding bad_line
  both-good stops good =
      let few = ram_line-is-short front good in
      let lines = bad_from-of-front front more (ram_end front + 1) 0 20 (omega (arith, few, long)) in
      record {
        same = rw (same-ram_line stops, good, same_digits stops) lines;
        some = λ none. absurd (omega (arith, few, long, bad_from-of-none front (ram_end front + 1) 0 20 (rw good at none)));
      }

  same-bad : SameBad
  same-bad = by_order (dec_lt (length (digits (drop 4 front))) 252)
    where
      by-line : (good : Bool) → ram_line front ≡ good → length (digits (drop 4 front)) < 252 → SameBad
      by-line true good stops = both-good stops good
      by-line false bad stops = both-bad (same-ram_line stops ∙ bad) bad

      by_order : Dec (length (digits (drop 4 front)) < 252) → SameBad
      by_order (yes stops) = by-line (ram_line front) refl stops
      by_order (no fills) =
          both-bad
          (bad-of-many (front ++ more) (omega (arith, fills, digits-grow (drop 4 front) more, ap (λ (text : List ℕ). length (digits text)) after-ram)))
          (bad-of-many front (omega (arith, fills)))

  same-printed : printed front ≡ printed (front ++ more)
  unfolding printed
  same-printed =
      let bad = same-bad in
      rw (bad.same, ne_eqb (bad_line front) 0 bad.some)

pub first-bytes-decide : FirstBytesDecide
first-bytes-decide text = by_length (dec_lt 256 (length text))
  where
    by_length : Dec (256 < length text) → printed (take 256 text) ≡ printed text
    by_length (yes long) =
        same-printed (take 256 text) (drop 256 text) (length-take-le 256 text (omega (arith, long)))
        ∙ ap printed (take-append-drop 256 text)
    by_length (no short) = ap printed (take_all 256 text (omega (arith, short)))
