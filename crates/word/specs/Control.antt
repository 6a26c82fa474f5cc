-- Paper 01, "The area blit": what the bits of BLTCON0 and BLTCON1 say.
use Rattle.std.specs.Prelude.{ℕ, ◌/◌, ◌%◌, Bool}
use Rattle.word.specs.Types.{Uses}
use Rattle.word.specs.Word.{bit, is_set}

-- "BLTCON0: bits 15-12 shift of A; 11, 10, 9, 8 use A, B, C, D; 7-0 logic function."
-- "BLTCON1: 15-12 shift of B; 4 exclusive fill; 3 inclusive fill; 2 fill carry in; 1 descending; 0 line."
abbrev pub shift : (control : ℕ) → ℕ
shift control = control / 4096 % 16

unfoldable pub uses : (con0 : ℕ) → Uses
uses con0 = record { a = is_set con0 11; b = is_set con0 10; c = is_set con0 9; d = is_set con0 8 }

abbrev pub function : (con0 : ℕ) → ℕ
function con0 = con0 % 256

abbrev pub exclusive_fill : (con1 : ℕ) → Bool
exclusive_fill con1 = is_set con1 4

abbrev pub inclusive_fill : (con1 : ℕ) → Bool
inclusive_fill con1 = is_set con1 3

abbrev pub carry_in : (con1 : ℕ) → ℕ
carry_in con1 = bit con1 2

abbrev pub descending : (con1 : ℕ) → Bool
descending con1 = is_set con1 1

abbrev pub line : (con1 : ℕ) → Bool
line con1 = is_set con1 0
