-- Laws of what is printed: digits, numbers and lines, out of their pieces.
use Rattle.word.proofs.Base.{◌≡◌, sym, ap, ap₂, ◌∙◌, ℕ, suc, ◌+◌, ◌*◌, ◌/◌, ◌%◌, ◌<◌, ◌≤◌, arith, false, eq-eqb, ne_eqb}
use Rattle.word.proofs.Base.{le-leb, lt-leb, List, [], ◌∷◌, length, get_or, drop, drop_of_length-le, drop-cons}
use Rattle.file.specs.Places.{pointer_d, flag}
use Rattle.runner.specs.Run.{ended, machine}
use Rattle.card_reading.specs.Text.{newline, colon, glyph, hex4, hex5, leading, decimal}
use Rattle.card_text.specs.Printing.{answer_is, stored_is, zero_is, dpt_is, word_is, line_is, number_line, dpt_line, word_line, changed_word, changed, printed_run, printed_bad}
use Rattle.card_text.specs.Card.{Written, written, writing}
use Rattle.card_text.proofs.WritingLaws.{writing-of-none, writing-of-append, writing-then}

pub leading-when-small : (power n at : ℕ) (out : List ℕ) → n < power → written at out ≡ writing (leading power n) (written at out)
unfolding leading
leading-when-small power n at out small = rw (lt-leb power n small) (sym (writing-of-none (written at out)))

pub leading-when-reached : (power n byte : ℕ) (before one : Written) → power ≤ n → byte ≡ glyph (n / power % 10)
    → one ≡ writing (byte ∷ []) before → one ≡ writing (leading power n) before
unfolding leading
leading-when-reached power n byte before one large is puts =
    rw (le-leb power n large) (puts ∙ ap (λ (b : ℕ). writing (b ∷ []) before) is)

pub decimal-of-pieces : (n byte : ℕ) (before one two three four five : Written)
    → one ≡ writing (leading 10000 n) before → two ≡ writing (leading 1000 n) one → three ≡ writing (leading 100 n) two
    → four ≡ writing (leading 10 n) three → byte ≡ glyph (n % 10) → five ≡ writing (byte ∷ []) four
    → five ≡ writing (decimal n) before
unfolding decimal
decimal-of-pieces n byte before one two three four five first second third fourth is fifth =
    let last : five ≡ writing (glyph (n % 10) ∷ []) four = fifth ∙ ap (λ (b : ℕ). writing (b ∷ []) four) is in
    writing-then _ _ before one five first
    (writing-then _ _ one two five second
    (writing-then _ _ two three five third
    (writing-then _ _ three four five fourth last)))

pub hex4-of-pieces : (n a b c d : ℕ) (before after : Written)
    → a ≡ glyph (n / 4096 % 16) → b ≡ glyph (n / 256 % 16) → c ≡ glyph (n / 16 % 16) → d ≡ glyph (n % 16)
    → after ≡ writing (a ∷ b ∷ c ∷ d ∷ []) before → after ≡ writing (hex4 n) before
unfolding hex4
hex4-of-pieces n a b c d before after is-a is_b is_c is-d puts = rw (← is-a, ← is_b, ← is_c, ← is-d) puts

pub hex5-of-pieces : (n a : ℕ) (before one two : Written) → a ≡ glyph (n / 65536 % 16)
    → one ≡ writing (a ∷ []) before → two ≡ writing (hex4 n) one → two ≡ writing (hex5 n) before
unfolding hex5
hex5-of-pieces n a before one two is first second =
    rw (← is) (writing-then (a ∷ []) (hex4 n) before one two first second)

pub number_line-of-pieces : (is : List ℕ) (n : ℕ) (before one two three : Written)
    → one ≡ writing is before → two ≡ writing (decimal n) one → three ≡ writing (newline ∷ []) two
    → three ≡ writing (number_line is n) before
unfolding number_line
number_line-of-pieces is n before one two three first second third =
    writing-then is _ before one three first (writing-then (decimal n) _ one two three second third)

pub dpt_line-of-pieces : (file : List ℕ) (high low : ℕ) (before one two three : Written)
    → high ≡ get_or file pointer_d 0 → low ≡ get_or file (pointer_d + 1) 0
    → one ≡ writing dpt_is before → two ≡ writing (hex5 (high * 65536 + low)) one → three ≡ writing (newline ∷ []) two
    → three ≡ writing (dpt_line file) before
unfolding dpt_line
dpt_line-of-pieces file high low before one two three is-high is-low first second third =
    rw (← is-high, ← is-low)
    (writing-then dpt_is _ before one three first (writing-then (hex5 (high * 65536 + low)) _ one two three second third))

pub word_line-of-pieces : (at word : ℕ) (before one two three four five : Written)
    → one ≡ writing word_is before → two ≡ writing (decimal at) one → three ≡ writing (colon ∷ []) two
    → four ≡ writing (hex4 word) three → five ≡ writing (newline ∷ []) four
    → five ≡ writing (word_line at word) before
unfolding word_line
word_line-of-pieces at word before one two three four five first second third fourth fifth =
    writing-then word_is _ before one five first
    (writing-then (decimal at) _ one two five second
    (writing-then (colon ∷ []) _ two three five third
    (writing-then (hex4 word) _ three four five fourth fifth)))

-- a word of memory: none where it is its own number
pub changed_word-when-same : (place word at : ℕ) (out : List ℕ) → word ≡ place
    → written at out ≡ writing (changed_word place word) (written at out)
unfolding changed_word
changed_word-when-same place word at out same = rw (eq-eqb word place same) (sym (writing-of-none (written at out)))

pub changed_word-when-other : (place word : ℕ) (before one : Written) → (word ≡ place → ⊥)
    → one ≡ writing (word_line place word) before → one ≡ writing (changed_word place word) before
unfolding changed_word
changed_word-when-other place word before one other puts = rw (ne_eqb word place other) puts

pub changed-turn : (memory out next : List ℕ) (place to next-to word : ℕ) (whole : Written)
    → place < length memory → word ≡ get_or memory place 0
    → written next-to next ≡ writing (changed_word place word) (written to out)
    → writing (changed place (drop place memory)) (written to out) ≡ whole
    → writing (changed (place + 1) (drop (place + 1) memory)) (written next-to next) ≡ whole
unfolding changed
changed-turn memory out next place to next-to word whole inside is puts so_far =
    let same : suc place ≡ place + 1 = omega arith in
    let split : drop place memory ≡ word ∷ drop (place + 1) memory =
    drop-cons memory place 0 inside ∙ ap₂ (λ (first : ℕ) (rest : List ℕ). first ∷ rest) (sym is) (ap (λ (at : ℕ). drop at memory) same) in
    ap (writing (changed (place + 1) (drop (place + 1) memory))) puts
    ∙ writing-of-append (changed_word place word) (changed (place + 1) (drop (place + 1) memory)) (written to out)
    ∙ sym (ap (λ (rest : List ℕ). writing (changed place rest) (written to out)) split)
    ∙ so_far

pub changed-done : (memory : List ℕ) (place : ℕ) (end whole : Written) → length memory ≤ place
    → writing (changed place (drop place memory)) end ≡ whole → end ≡ whole
unfolding changed
changed-done memory place end whole past so_far =
    sym (writing-of-none end)
    ∙ sym (ap (λ (rest : List ℕ). writing (changed place rest) end) (drop_of_length-le memory past))
    ∙ so_far

pub printed_run-of-pieces : (number stored flagged : ℕ) (memory file : List ℕ) (before one two three four five : Written)
    → flagged ≡ get_or file flag 0
    → one ≡ writing (number_line answer_is number) before → two ≡ writing (number_line stored_is stored) one
    → three ≡ writing (number_line zero_is flagged) two → four ≡ writing (dpt_line file) three → five ≡ writing (changed 0 memory) four
    → five ≡ writing (printed_run (ended number 0 (machine memory file stored false))) before
unfolding printed_run
printed_run-of-pieces number stored flagged memory file before one two three four five is first second third fourth fifth =
    rw (← is)
    (writing-then (number_line answer_is number) _ before one five first
    (writing-then (number_line stored_is stored) _ one two five second
    (writing-then (number_line zero_is flagged) _ two three five third
    (writing-then (dpt_line file) _ three four five fourth fifth))))

pub printed_bad-of-pieces : (line : ℕ) (before one two : Written)
    → one ≡ writing (number_line answer_is 12) before → two ≡ writing (number_line line_is line) one
    → two ≡ writing (printed_bad line) before
unfolding printed_bad
printed_bad-of-pieces line before one two first second = writing-then (number_line answer_is 12) _ before one two first second
