-- Paper 01, "The area blit": what a blit doesn't change, by the control registers, the masks and the modulos.
use Rattle.std.specs.Prelude.{ℕ, List, get_or, if◌then◌else◌}
use Rattle.word.specs.declared.types.Direction.{Direction}
use Rattle.word.specs.declared.types.Direction.TheVariants.{Ascending, Descending}
use Rattle.word.specs.declared.types.Fill.{Fill}
use Rattle.word.specs.declared.types.Fill.TheVariants.{Off, Inclusive, Exclusive}
use Rattle.word.specs.Control.{shift, uses, function, exclusive_fill, inclusive_fill, carry_in, descending}
use Rattle.word.specs.Pointer.{half}
use Rattle.file.specs.File.{con0, con1}
use Rattle.file.specs.Places.{first_mask, last_mask, modulo_a, modulo_b, modulo_c, modulo_d}
use Rattle.area.specs.Types.{Modulos}
use Rattle.area.specs.declared.types.Masks.{Masks}
use Rattle.area.specs.Types.{Shifts}
use Rattle.area.specs.declared.types.Setup.{Setup}

-- the shift of A and of B
unfoldable pub shifts : (con0 con1 : ℕ) → Shifts
shifts con0 con1 = record { a = shift con0; b = shift con1 }

unfoldable pub direction : (con1 : ℕ) → Direction
direction con1 =
    if descending con1 then Descending else
    Ascending

unfoldable pub fill : (con1 : ℕ) → Fill
fill con1 =
    if exclusive_fill con1 then Exclusive else
    if inclusive_fill con1 then Inclusive else
    Off

unfoldable pub masks : (file : List ℕ) → Masks
masks file = record { first = get_or file first_mask 0; last = get_or file last_mask 0 }

unfoldable pub modulos : (file : List ℕ) → Modulos
modulos file =
    record {
      a = half (get_or file modulo_a 0);
      b = half (get_or file modulo_b 0);
      c = half (get_or file modulo_c 0);
      d = half (get_or file modulo_d 0);
    }

unfoldable pub setup : (file : List ℕ) → Setup
setup file =
    record {
      uses = uses (con0 file);
      modulos = modulos file;
      masks = masks file;
      shifts = shifts (con0 file) (con1 file);
      function = function (con0 file);
      direction = direction (con1 file);
      fill = fill (con1 file);
      carry = carry_in (con1 file);
    }
