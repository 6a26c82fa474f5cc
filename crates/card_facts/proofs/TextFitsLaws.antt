-- What a card gives is no longer than its room: each line has its most, and memory at most 32,768 words.
use Rattle.std.specs.Prelude.{if◌then◌else◌}
use Rattle.word.proofs.Base.{◌≡◌, refl, ap, ◌∙◌, ℕ, ◌+◌, ◌*◌, ◌/◌, ◌%◌, ◌<◌, ◌≤◌, dec_lt, arith, Bool, true, false, eqb}
use Rattle.word.proofs.Base.{leb, eqb-true, List, [], ◌∷◌, ◌++◌, length, get_or, length-append}
use Rattle.file.specs.Places.{file_length, flag}
use Rattle.job.specs.Steps.{steps_from}
use Rattle.runner.specs.Run.{End, machine, start_refusal, run}
use Rattle.runner.proofs.LengthLaws.{run_steps-keeps-memory-length}
use Rattle.runner.proofs.StartLaws.{run-when-started, run-when-unstarted}
use Rattle.card_reading.specs.Text.{newline, colon, glyph, hex4, hex5, leading, decimal}
use Rattle.card_reading.specs.RamLine.{ram_words, ram_end, ram_line}
use Rattle.card_reading.specs.Keys.{key_count}
use Rattle.card_reading.specs.Reading.{bad_from, bad_line}
use Rattle.card_reading.specs.Job.{card_job}
use Rattle.card_text.specs.Run.{counted, zeros, card_run}
use Rattle.card_text.specs.Printing.{answer_is, stored_is, zero_is, word_is, line_is, number_line, dpt_line, word_line, changed_word, changed, printed_run, printed_bad}
use Rattle.card_text.specs.Card.{printed}
use Rattle.card_facts.specs.TextFits.{TextFits}
use Rattle.card_text.proofs.RunLaws.{counted-length}
use Rattle.card_reading.proofs.RamLaws.{ram_words-le}

-- of two parts
both-le : (one other : List ℕ) (most more : ℕ) → length one ≤ most → length other ≤ more → length (one ++ other) ≤ most + more
both-le one other most more first second = omega (arith, first, second, length-append one other)

leading_le : (power n : ℕ) → length (leading power n) ≤ 1
unfolding leading
leading_le power n = by-test (leb power n)
  where
    by-test : (reached : Bool) → length (if reached then glyph (n / power % 10) ∷ [] else []) ≤ 1
    by-test true = omega arith
    by-test false = omega arith

decimal-le : (n : ℕ) → length (decimal n) ≤ 5
unfolding decimal
decimal-le n =
    both-le (leading 10000 n) _ 1 4 (leading_le 10000 n)
    (both-le (leading 1000 n) _ 1 3 (leading_le 1000 n)
    (both-le (leading 100 n) _ 1 2 (leading_le 100 n)
    (both-le (leading 10 n) _ 1 1 (leading_le 10 n) (omega arith))))

number_line-le : (is : List ℕ) (n : ℕ) → length (number_line is n) ≤ length is + 6
unfolding number_line
number_line-le is n = both-le is _ (length is) 6 (omega arith) (both-le (decimal n) _ 5 1 (decimal-le n) (omega arith))

dpt_line-le : (file : List ℕ) → length (dpt_line file) ≤ 10
unfolding dpt_line hex5 hex4
dpt_line-le file = omega arith

word_line-le : (at word : ℕ) → length (word_line at word) ≤ 16
unfolding word_line hex4
word_line-le at word =
    both-le word_is (decimal at ++ ((colon ∷ []) ++ (hex4 word ++ (newline ∷ [])))) 5 11 (omega arith)
    (both-le (decimal at) ((colon ∷ []) ++ (hex4 word ++ (newline ∷ []))) 5 6 (decimal-le at) (omega arith))

changed_word-le : (at word : ℕ) → length (changed_word at word) ≤ 16
unfolding changed_word
changed_word-le at word = by-test (eqb word at)
  where
    by-test : (same : Bool) → length (if same then [] else word_line at word) ≤ 16
    by-test true = omega arith
    by-test false = word_line-le at word

changed-le : (at : ℕ) (memory : List ℕ) → length (changed at memory) ≤ length memory * 16
unfolding changed
changed-le at [] = omega arith
changed-le at (word ∷ memory) =
    omega (arith, both-le (changed_word at word) (changed (at + 1) memory) 16 (length memory * 16) (changed_word-le at word) (changed-le (at + 1) memory))

-- the lines before the changed words, one by one
module _ (end : End) (small : length end.machine.memory ≤ 32768) where
  words : List ℕ
  words = changed 0 end.machine.memory

  words-le : length words ≤ 524288
  unfolding words
  words-le = omega (arith, small, changed-le 0 end.machine.memory)

  fourth : List ℕ
  fourth = dpt_line end.machine.file ++ words

  third : List ℕ
  third = number_line zero_is (get_or end.machine.file flag 0) ++ fourth

  second : List ℕ
  second = number_line stored_is end.machine.stored ++ third

  lines-le : length (number_line answer_is end.number ++ second) ≤ 13 + (13 + (11 + (10 + 524288)))
  unfolding second third fourth
  lines-le =
      both-le (number_line answer_is end.number) second 13 (13 + (11 + (10 + 524288))) (number_line-le answer_is end.number)
      (both-le (number_line stored_is end.machine.stored) third 13 (11 + (10 + 524288)) (number_line-le stored_is end.machine.stored)
      (both-le (number_line zero_is (get_or end.machine.file flag 0)) fourth 11 (10 + 524288) (number_line-le zero_is (get_or end.machine.file flag 0))
      (both-le (dpt_line end.machine.file) words 10 524288 (dpt_line-le end.machine.file) words-le)))

  printed_run-le : length (printed_run end) ≤ 524416
  unfolding printed_run second third fourth words
  printed_run-le = omega (arith, lines-le)

printed_bad-le : (line : ℕ) → length (printed_bad line) ≤ 524416
unfolding printed_bad
printed_bad-le line =
    let all = both-le (number_line answer_is 12) (number_line line_is line) 13 11 (number_line-le answer_is 12) (number_line-le line_is line) in
    omega (arith, all)

-- a run keeps the length of its memory
run-keeps-memory-length : (memory file job : List ℕ) → length (run memory file job).machine.memory ≡ length memory
run-keeps-memory-length memory file job = by-start (dec_lt 0 (start_refusal memory file job))
  where
    by-start : Dec (0 < start_refusal memory file job) → length (run memory file job).machine.memory ≡ length memory
    by-start (yes some) =
        ap (λ (end : End). length end.machine.memory) (run-when-unstarted memory file job (λ none. omega (arith, none, some)))
    by-start (no none) =
        ap (λ (end : End). length end.machine.memory) (run-when-started memory file job (omega (arith, none)))
        ∙ run_steps-keeps-memory-length (steps_from 0 0 job) (machine memory file 0 false)

-- a good card has a good first line
bad_line-of-none : (text : List ℕ) → bad_line text ≡ 0 → ram_line text ≡ true
unfolding bad_line
bad_line-of-none text none = by-test (ram_line text) refl none
  where
    by-test : (good : Bool) → ram_line text ≡ good → (if good then bad_from text (ram_end text + 1) 0 key_count else 1) ≡ 0 → good ≡ true
    by-test true good none = refl
    by-test false bad none = absurd (omega (arith, none))

pub text-fits : TextFits
unfolding printed card_run
text-fits text = by-line (eqb (bad_line text) 0) refl
  where
    good : ram_line text ≡ true → length (run (counted 0 (ram_words text)) (zeros file_length) (card_job text)).machine.memory ≤ 32768
    good is =
        omega (arith, ram_words-le text is, run-keeps-memory-length (counted 0 (ram_words text)) (zeros file_length) (card_job text), counted-length 0 (ram_words text))

    by-line : (fine : Bool) → eqb (bad_line text) 0 ≡ fine
        → length (if fine then printed_run (run (counted 0 (ram_words text)) (zeros file_length) (card_job text)) else printed_bad (bad_line text)) ≤ 524416
    by-line true is = printed_run-le (run (counted 0 (ram_words text)) (zeros file_length) (card_job text)) (good (bad_line-of-none text (eqb-true (bad_line text) 0 is)))
    by-line false is = printed_bad-le (bad_line text)
