-- Paper 01, "The area blit": "A used source fetches at its pointer; a source not in use gives its data register each
-- time."
-- "The data register of each used source holds the last word it fetched, unmasked."
use Rattle.std.specs.Prelude.{ℕ, Bool, List, get_or, if◌then◌else◌}
use Rattle.word.specs.declared.types.Pointer.{Pointer}
use Rattle.word.specs.Types.{Uses}
use Rattle.area.specs.declared.types.Flow.{Flow}
use Rattle.area.specs.With.{with_sources}

unfoldable pub fetched : (used : Bool) → (memory : List ℕ) → Pointer → (source : ℕ) → ℕ
fetched used memory pointer source = if used then get_or memory pointer.word 0 else source

unfoldable pub fetch : Uses → (memory : List ℕ) → Flow → Flow
fetch uses memory flow =
    with_sources
    (record {
      a = fetched uses.a memory flow.pointers.a flow.sources.a;
      b = fetched uses.b memory flow.pointers.b flow.sources.b;
      c = fetched uses.c memory flow.pointers.c flow.sources.c;
    })
    flow
