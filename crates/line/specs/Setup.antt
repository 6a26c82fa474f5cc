-- Paper 01, "Kept for lines and Copper lists": what a line is set up with, and no dot changes.
use Rattle.std.specs.Prelude.{ℕ, Bool, List, get_or}
use Rattle.std.specs.Int.Bits.{bit_and}
use Rattle.word.specs.Word.{is_set}
use Rattle.word.specs.Control.{function}
use Rattle.word.specs.Pointer.{half}
use Rattle.file.specs.File.{con0, con1}
use Rattle.file.specs.Places.{first_mask, modulo_a, modulo_b, modulo_c, source_a, source_b}
use Rattle.line.specs.declared.types.Octant.{Octant}
use Rattle.line.specs.Types.{Gains}
use Rattle.line.specs.declared.types.Line.{Line}

-- "SING (bit 1)"
abbrev pub sing : (con1 : ℕ) → Bool
sing con1 = is_set con1 1

-- "SUD (bit 4)", "SUL (3), AUL (2)"
abbrev pub octant : (con1 : ℕ) → Octant
octant con1 = record { sud = is_set con1 4; sul = is_set con1 3; aul = is_set con1 2 }

-- "the whole A modulo", "else the B modulo"
abbrev pub gains : (file : List ℕ) → Gains
gains file = record { a = get_or file modulo_a 0; b = get_or file modulo_b 0 }

-- A is "its data ANDed with BLTAFWM"; BLTALWM has no part in a line, nor has D's modulo
unfoldable pub line_setup : (file : List ℕ) → Line
line_setup file =
    record {
      a = bit_and (get_or file source_a 0) (get_or file first_mask 0);
      texture = get_or file source_b 0;
      function = function (con0 file);
      sing = sing (con1 file);
      octant = octant (con1 file);
      row = half (get_or file modulo_c 0);
      gains = gains file;
    }
