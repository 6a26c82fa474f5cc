-- Paper 01, "The bench card": what it prints of a run, and of a bad card.
use Rattle.std.specs.Prelude.{ℕ, ◌+◌, ◌*◌, List, [], ◌∷◌, ◌++◌, eqb, get_or, if◌then◌else◌}
use Rattle.file.specs.Places.{pointer_d, flag}
use Rattle.runner.specs.Run.{End}
use Rattle.card_reading.specs.Letters.{bytes}
use Rattle.card_reading.specs.Text.{newline, colon, hex4, hex5, decimal}

abbrev pub answer_is : List ℕ
answer_is = bytes "answer="

abbrev pub stored_is : List ℕ
stored_is = bytes "stored="

abbrev pub zero_is : List ℕ
zero_is = bytes "zero="

abbrev pub dpt_is : List ℕ
dpt_is = bytes "dpt="

abbrev pub word_is : List ℕ
word_is = bytes "word="

abbrev pub line_is : List ℕ
line_is = bytes "line="

-- a line with a number
unfoldable pub number_line : (is : List ℕ) → ℕ → List ℕ
number_line is n = is ++ (decimal n ++ (newline ∷ []))

-- "dpt is the byte address": five hex digits
unfoldable pub dpt_line : (file : List ℕ) → List ℕ
dpt_line file = dpt_is ++ (hex5 (get_or file pointer_d 0 * 65536 + get_or file (pointer_d + 1) 0) ++ (newline ∷ []))

unfoldable pub word_line : (at word : ℕ) → List ℕ
word_line at word = word_is ++ (decimal at ++ ((colon ∷ []) ++ (hex4 word ++ (newline ∷ []))))

-- a word is changed that isn't what it started as, its own number
unfoldable pub changed_word : (at word : ℕ) → List ℕ
changed_word at word = if eqb word at then [] else word_line at word

-- "Changed words come in rising order"
unfoldable pub changed : (at : ℕ) → (memory : List ℕ) → List ℕ
changed at [] = []
changed at (word ∷ rest) = changed_word at word ++ changed (at + 1) rest

-- a run that is done; "a refused blit prints the same lines with its number"
unfoldable pub printed_run : End → List ℕ
printed_run end =
    number_line answer_is end.number
    ++ (number_line stored_is end.machine.stored
    ++ (number_line zero_is (get_or end.machine.file flag 0)
    ++ (dpt_line end.machine.file
    ++ changed 0 end.machine.memory)))

-- "A bad card prints answer=12 and line= .., and no more."
unfoldable pub printed_bad : (line : ℕ) → List ℕ
printed_bad line = number_line answer_is 12 ++ number_line line_is line
