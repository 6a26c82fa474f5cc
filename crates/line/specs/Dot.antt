-- Paper 01, "Kept for lines and Copper lists": what changes from dot to dot, as it is for the first one.
use Rattle.std.specs.Prelude.{ℕ, ◌+◌, true, List, get_or}
use Rattle.word.specs.Word.{is_set}
use Rattle.word.specs.Control.{shift}
use Rattle.file.specs.File.{con0, con1}
use Rattle.file.specs.Places.{pointer_a, pointer_c}
use Rattle.file.specs.Pointers.{pointer_at}
use Rattle.line.specs.declared.types.Dot.{Dot}

-- "C comes from its pointer", A is "moved right by its shift". The texture's bit is "first the one BLTCON1 15-12 names".
-- The accumulator is "the A pointer's low half". "Sign starts as bit 6."
unfoldable pub first_dot : (file : List ℕ) → Dot
first_dot file =
    record {
      spot = record { at = pointer_at file pointer_c; shift = shift (con0 file) };
      bit = shift (con1 file);
      accumulator = get_or file (pointer_a + 1) 0;
      sign = is_set (con1 file) 6;
      first = true;
    }
