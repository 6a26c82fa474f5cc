-- Laws of a card's lines: what is read of the first, and the first bad one of the others.
use Rattle.std.specs.Prelude.{Option, Some, None, if◌then◌else◌}
use Rattle.word.proofs.Base.{◌≡◌, refl, sym, ap, ◌∙◌, ℕ, zero, suc, ◌+◌, ◌-◌, ◌*◌, ◌<◌, ◌≤◌, add-zero, dec_lt, arith}
use Rattle.word.proofs.Base.{Bool, true, false, ◌&&◌, eqb, eq-eqb, ne_eqb, eqb-true, List, length, get_or}
use Rattle.word.proofs.Base.{List·get_or-eq-default}
use Rattle.word.proofs.ChoiceLaws.{and_none}
use Rattle.card_reading.specs.Text.{newline, equals, byte, hex_digit}
use Rattle.card_reading.specs.RamLine.{digits}
use Rattle.card_reading.specs.Keys.{letter}
use Rattle.card_reading.specs.Reading.{key_at, word_at, key_line, bad_from}
use Rattle.card_reading.specs.Inner.Ram.{told}

pub key_at-of-parts : (text : List ℕ) (at key a b c d : ℕ)
    → a ≡ letter key 0 → b ≡ letter key 1 → c ≡ letter key 2 → d ≡ letter key 3
    → (eqb (get_or text at 0) a && eqb (get_or text (at + 1) 0) b && eqb (get_or text (at + 2) 0) c && eqb (get_or text (at + 3) 0) d) ≡ key_at text at key
unfolding key_at
key_at-of-parts text at key a b c d is-a is_b is_c is-d = rw (is-a, is_b, is_c, is-d)

pub word_at-of-parts : (text : List ℕ) (at : ℕ) (a b c d : Bool)
    → a ≡ hex_digit (get_or text at 0) → b ≡ hex_digit (get_or text (at + 1) 0)
    → c ≡ hex_digit (get_or text (at + 2) 0) → d ≡ hex_digit (get_or text (at + 3) 0)
    → (a && b && c && d) ≡ word_at text at
unfolding word_at
word_at-of-parts text at a b c d is-a is_b is_c is-d = rw (is-a, is_b, is_c, is-d)

pub key_line-of-parts : (text : List ℕ) (at key : ℕ) (named digits : Bool)
    → named ≡ key_at text at key → digits ≡ word_at text (at + 5)
    → (named && eqb (get_or text (at + 4) 0) equals && digits && eqb (get_or text (at + 9) 0) newline) ≡ key_line text at key
unfolding key_line
key_line-of-parts text at key named digits is-named is-digits = rw (is-named, is-digits)

-- a line has ten bytes
key_line-when-short : (text : List ℕ) (at key : ℕ) → length text ≤ at + 9 → false ≡ key_line text at key
unfolding key_line
key_line-when-short text at key short =
    rw (List·get_or-eq-default text 0 short)
    (sym (and_none (key_at text at key && eqb (byte text (at + 4)) equals && word_at text (at + 5))))

pub key_line-when-cut : (text : List ℕ) (at key : ℕ) → at ≤ length text → length text - at < 10 → false ≡ key_line text at key
key_line-when-cut text at key inside short = key_line-when-short text at key (omega (arith, inside, short))

pub key_line-fits : (text : List ℕ) (at key : ℕ) (good : Bool) → good ≡ key_line text at key → good ≡ true → at + 10 ≤ length text
key_line-fits text at key good is holds = by_order (dec_lt (at + 9) (length text))
  where
    by_order : Dec (at + 9 < length text) → at + 10 ≤ length text
    by_order (yes inside) = omega (arith, inside)
    by_order (no short) =
        let bad : false ≡ key_line text at key = key_line-when-short text at key (omega (arith, short)) in
        let n : ◌≡◌ {A = ℕ} 0 1 = cc in absurd (omega arith)

-- the lines after the first, one by one
bad_from-on : (text : List ℕ) (at key line : ℕ) (good : Bool) → key < 20 → good ≡ key_line text at key → good ≡ true
    → bad_from text at key (20 - key) ≡ line → bad_from text (at + 10) (key + 1) (20 - (key + 1)) ≡ line
unfolding bad_from
bad_from-on text at key line good inside is holds so_far =
    let more : 20 - key ≡ suc (20 - (key + 1)) = omega (arith, inside) in
    let here : bad_from text at key (suc (20 - (key + 1))) ≡ line = sym (ap (bad_from text at key) more) ∙ so_far in
    rw (← is, holds) at here

pub bad_from-turn : (text : List ℕ) (start key line : ℕ) (good : Bool) → key < 20 → good ≡ key_line text (start + key * 10) key → good ≡ true
    → bad_from text (start + key * 10) key (20 - key) ≡ line → bad_from text (start + (key + 1) * 10) (key + 1) (20 - (key + 1)) ≡ line
bad_from-turn text start key line good inside is holds so_far =
    let next : start + (key + 1) * 10 ≡ start + key * 10 + 10 = omega arith in
    rw next (bad_from-on text (start + key * 10) key line good inside is holds so_far)

pub key_line-fits-next : (text : List ℕ) (start key : ℕ) (good : Bool) → good ≡ key_line text (start + key * 10) key → good ≡ true
    → start + (key + 1) * 10 ≤ length text
key_line-fits-next text start key good is holds = omega (arith, key_line-fits text (start + key * 10) key good is holds)

pub bad_from-when-bad : (text : List ℕ) (at key line : ℕ) (good : Bool) → key < 20 → good ≡ key_line text at key → good ≡ false
    → bad_from text at key (20 - key) ≡ line → key + 2 ≡ line
unfolding bad_from
bad_from-when-bad text at key line good inside is fails so_far =
    let more : 20 - key ≡ suc (20 - (key + 1)) = omega (arith, inside) in
    let here : bad_from text at key (suc (20 - (key + 1))) ≡ line = sym (ap (bad_from text at key) more) ∙ so_far in
    rw (← is, fails) at here

pub bad_from-when-ended : (text : List ℕ) (start key line : ℕ) → key ≡ 20 → start + 200 ≡ length text
    → bad_from text (start + key * 10) key (20 - key) ≡ line → 0 ≡ line
unfolding bad_from
bad_from-when-ended text start key line past same so_far =
    let here : bad_from text (start + 200) 20 0 ≡ line = rw past at so_far in
    rw (eq-eqb (start + 200) (length text) same) at here

pub bad_from-when-more : (text : List ℕ) (start key line : ℕ) → key ≡ 20 → (start + 200 ≡ length text → ⊥)
    → bad_from text (start + key * 10) key (20 - key) ≡ line → 22 ≡ line
unfolding bad_from
bad_from-when-more text start key line past other so_far =
    let here : bad_from text (start + 200) 20 0 ≡ line = rw past at so_far in
    rw (ne_eqb (start + 200) (length text) other) at here

-- a good card's lines end where the text does
pub bad_from-of-none : (text : List ℕ) (at key to_come : ℕ) → bad_from text at key to_come ≡ 0 → at + to_come * 10 ≡ length text
unfolding bad_from
bad_from-of-none text at key zero none = by-test (eqb at (length text)) refl none
  where
    by-test : (same : Bool) → eqb at (length text) ≡ same → ◌≡◌ {A = ℕ} (if same then 0 else 22) 0 → at + 0 ≡ length text
    by-test true is none = add-zero at ∙ eqb-true at (length text) is
    by-test false is none = absurd (omega arith)
bad_from-of-none text at key (suc to_come) none =
    by-test (key_line text at key) (λ later. bad_from-of-none text (at + 10) (key + 1) to_come later) none
  where
    by-test : (good : Bool) → (bad_from text (at + 10) (key + 1) to_come ≡ 0 → at + 10 + to_come * 10 ≡ length text)
        → (if good then bad_from text (at + 10) (key + 1) to_come else key + 2) ≡ 0 → at + suc to_come * 10 ≡ length text
    by-test true later none = omega (arith, later none)
    by-test false later none = absurd (omega arith)

pub good-fits : (text : List ℕ) (start line : ℕ) → line ≡ bad_from text start 0 20 → line ≡ 0 → start + 200 ≤ length text
good-fits text start line is none = omega (arith, bad_from-of-none text start 0 20 (sym is ∙ none))

-- a line's number is told, where it isn't 0
pub told-when-some : (line number : ℕ) → 1 ≤ number → number ≡ line → Some number ≡ told line
unfolding told
told-when-some line number some is =
    let other : number ≡ 0 → ⊥ = λ same. absurd (omega arith) in
    rw (← is, ne_eqb number 0 other)

pub told-when-none : (line : ℕ) → 0 ≡ line → ◌≡◌ {A = Option ℕ} None (told line)
unfolding told
told-when-none line is = rw (← is)

pub told-is : (line number : ℕ) → Some number ≡ told line → number ≡ line
unfolding told
told-is line number tells = by-test (eqb line 0) tells
  where
    by-test : (none : Bool) → Some number ≡ (if none then None else Some line) → number ≡ line
    by-test true tells = let wrong : ◌≡◌ {A = ℕ} 0 1 = cc in absurd (omega arith)
    by-test false tells = cc

pub told-none : (line : ℕ) → ◌≡◌ {A = Option ℕ} None (told line) → line ≡ 0
unfolding told
told-none line tells = by-test (eqb line 0) refl tells
  where
    by-test : (none : Bool) → eqb line 0 ≡ none → ◌≡◌ {A = Option ℕ} None (if none then None else Some line) → line ≡ 0
    by-test true is tells = eqb-true line 0 is
    by-test false is tells = let wrong : ◌≡◌ {A = ℕ} 0 1 = cc in absurd (omega arith)

pub told-some : (line number : ℕ) → Some number ≡ told line → number ≡ 0 → ⊥
unfolding told
told-some line number tells none = by-test (eqb line 0) refl tells
  where
    by-test : (zero : Bool) → eqb line 0 ≡ zero → Some number ≡ (if zero then None else Some line) → ⊥
    by-test true is tells = let wrong : ◌≡◌ {A = ℕ} 0 1 = cc in absurd (omega arith)
    by-test false is tells =
        let same : line ≡ 0 = cc in
        let wrong : eqb line 0 ≡ true = eq-eqb line 0 same in
        let n : ◌≡◌ {A = ℕ} 0 1 = cc in absurd (omega arith)
