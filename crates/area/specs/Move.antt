-- Paper 01, "The area blit": the moves of the pointers after a word and at a row's end. "Unused pointers stay."
use Rattle.std.specs.Prelude.{ℕ, Bool, if◌then◌else◌}
use Rattle.word.specs.declared.types.Direction.{Direction}
use Rattle.word.specs.declared.types.Pointer.{Pointer}
use Rattle.word.specs.Pointer.{moved, passed}
use Rattle.word.specs.Types.{Uses}
use Rattle.area.specs.Types.{Modulos}
use Rattle.area.specs.declared.types.Flow.{Flow}
use Rattle.area.specs.With.{with_pointers}

-- "After a word each used channel's pointer moves one up, or one down if descending."
unfoldable pub stepped : Direction → (used : Bool) → Pointer → Pointer
stepped direction used pointer = if used then moved direction pointer else pointer

unfoldable pub move_on : Direction → Uses → Flow → Flow
move_on direction uses flow =
    with_pointers
    (record {
      a = stepped direction uses.a flow.pointers.a;
      b = stepped direction uses.b flow.pointers.b;
      c = stepped direction uses.c flow.pointers.c;
      d = stepped direction uses.d flow.pointers.d;
    })
    flow

-- "After a row's last word the modulo is then added, or taken away if descending."
unfoldable pub turned : Direction → (used : Bool) → (modulo : ℕ) → Pointer → Pointer
turned direction used modulo pointer = if used then passed direction modulo pointer else pointer

unfoldable pub row_end : Direction → Uses → Modulos → Flow → Flow
row_end direction uses modulos flow =
    with_pointers
    (record {
      a = turned direction uses.a modulos.a flow.pointers.a;
      b = turned direction uses.b modulos.b flow.pointers.b;
      c = turned direction uses.c modulos.c flow.pointers.c;
      d = turned direction uses.d modulos.d flow.pointers.d;
    })
    flow
