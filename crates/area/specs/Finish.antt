-- Paper 01, "The area blit": a word from the fetched sources to the final one; memory has no part in it.
use Rattle.std.specs.Prelude.{ℕ, Bool, ◌&&◌, eqb}
use Rattle.word.specs.declared.types.Filled.{Filled}
use Rattle.word.specs.Mask.{masked}
use Rattle.word.specs.Shift.{shifted}
use Rattle.word.specs.Logic.{logic}
use Rattle.word.specs.Fill.{filled}
use Rattle.area.specs.declared.types.Setup.{Setup}
use Rattle.area.specs.declared.types.Flow.{Flow}
use Rattle.area.specs.declared.types.Finished.{Finished}
use Rattle.area.specs.With.{with_earlier, with_carry, with_allzero}

-- A as masked
unfoldable pub masked_a : Setup → (first last : Bool) → Flow → ℕ
masked_a setup first last flow = masked first last setup.masks.first setup.masks.last flow.sources.a

-- "Shift of A, after the mask, and of B .. C isn't shifted." The logic function joins the three.
unfoldable pub result_word : Setup → (masked : ℕ) → Flow → ℕ
result_word setup masked flow =
    logic setup.function
    (shifted setup.direction setup.shifts.a flow.earlier.a masked)
    (shifted setup.direction setup.shifts.b flow.earlier.b flow.sources.b)
    flow.sources.c

-- "Fill runs .. from bit 0 of the first word to bit 15 of the last": the carry comes from the word before
unfoldable pub final : Setup → (first last : Bool) → Flow → Filled
final setup first last flow = filled setup.fill flow.carry (result_word setup (masked_a setup first last flow) flow)

-- this word is the next one's earlier word; "every final word was zero, D used or not"
unfoldable pub finish : Setup → (first last : Bool) → Flow → Finished
finish setup first last flow =
    record {
      word = (final setup first last flow).word;
      flow =
          with_earlier (record { a = masked_a setup first last flow; b = flow.sources.b })
          (with_carry (final setup first last flow).carry
          (with_allzero (flow.allzero && eqb (final setup first last flow).word 0) flow));
    }
