-- Laws of digits: which bytes they are, and what they are worth.
use Rattle.word.proofs.Base.{◌≡◌, sym, ◌∙◌, ℕ, ◌+◌, ◌-◌, ◌*◌, ◌<◌, ◌≤◌, arith, Bool, true, false, ◌||◌, leb, leb-true}
use Rattle.word.proofs.Base.{List, get_or}
use Prim.Native.Char.{code}
use Rattle.word.proofs.ChoiceLaws.{and_left, and_right}
use Rattle.card_reading.specs.Text.{decimal_digit, capital, hex_digit, hex_value, hex_word}

module _ (byte : ℕ) (digit : Bool) (is : digit ≡ decimal_digit byte) (holds : digit ≡ true) where
  pub decimal_digit-holds : decimal_digit byte ≡ true
  decimal_digit-holds = sym is ∙ holds

  pub decimal_digit-ge : code "0" ≤ byte
  unfolding decimal_digit
  decimal_digit-ge = leb-true (code "0") byte (and_left (leb (code "0") byte) (leb byte (code "9")) (sym is ∙ holds))

  pub decimal_digit-le : byte ≤ code "9"
  unfolding decimal_digit
  decimal_digit-le = leb-true byte (code "9") (and_right (leb (code "0") byte) (leb byte (code "9")) (sym is ∙ holds))

  pub hex_value-when-decimal : byte - code "0" ≡ hex_value byte
  unfolding hex_value
  hex_value-when-decimal = rw (← is, holds)

  pub decimal-lt : byte - code "0" < 16
  decimal-lt = omega (arith, decimal_digit-ge, decimal_digit-le)

module _ (byte : ℕ) (digit letter : Bool) (is : digit ≡ decimal_digit byte) (fails : digit ≡ false) (is-letter : letter ≡ capital byte) where
  pub capital-ge : letter ≡ true → code "A" ≤ byte
  unfolding capital
  capital-ge holds = leb-true (code "A") byte (and_left (leb (code "A") byte) (leb byte (code "F")) (sym is-letter ∙ holds))

  pub capital-le : letter ≡ true → byte ≤ code "F"
  unfolding capital
  capital-le holds = leb-true byte (code "F") (and_right (leb (code "A") byte) (leb byte (code "F")) (sym is-letter ∙ holds))

  pub hex_value-when-capital : letter ≡ true → byte - code "A" + 10 ≡ hex_value byte
  unfolding hex_value
  hex_value-when-capital holds = rw (← is, fails, ← is-letter, holds)

  pub capital-lt : letter ≡ true → byte - code "A" + 10 < 16
  capital-lt holds = omega (arith, capital-ge holds, capital-le holds)

  pub hex_value-when-none : letter ≡ false → 0 ≡ hex_value byte
  unfolding hex_value
  hex_value-when-none none = rw (← is, fails, ← is-letter, none)

pub hex_digit-of-parts : (byte : ℕ) (digit letter : Bool) → digit ≡ decimal_digit byte → letter ≡ capital byte → (digit || letter) ≡ hex_digit byte
unfolding hex_digit
hex_digit-of-parts byte digit letter is is-letter = rw (is, is-letter)

pub hex_word-of-parts : (text : List ℕ) (at one two three four : ℕ)
    → one ≡ hex_value (get_or text at 0) → two ≡ hex_value (get_or text (at + 1) 0)
    → three ≡ hex_value (get_or text (at + 2) 0) → four ≡ hex_value (get_or text (at + 3) 0)
    → one * 4096 + two * 256 + three * 16 + four ≡ hex_word text at
unfolding hex_word
hex_word-of-parts text at one two three four first second third fourth = rw (first, second, third, fourth)
