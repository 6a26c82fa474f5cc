-- Paper 01, "The area blit": what changes as a blit goes on, how it starts, and memory beside it.
use Rattle.std.specs.Prelude.{ℕ, true, List, Option, None, get_or}
use Rattle.file.specs.Places.{pointer_a, pointer_b, pointer_c, pointer_d, source_a, source_b, source_c}
use Rattle.file.specs.Pointers.{pointer_at}
use Rattle.area.specs.Types.{Pointers, Sources}
use Rattle.area.specs.declared.types.Pending.{Pending}
use Rattle.area.specs.declared.types.Flow.{Flow}

unfoldable pub pointers : (file : List ℕ) → Pointers
pointers file =
    record {
      a = pointer_at file pointer_a;
      b = pointer_at file pointer_b;
      c = pointer_at file pointer_c;
      d = pointer_at file pointer_d;
    }

-- the data registers
unfoldable pub sources : (file : List ℕ) → Sources
sources file = record { a = get_or file source_a 0; b = get_or file source_b 0; c = get_or file source_c 0 }

-- no word waits to be stored
abbrev pub nothing : Option Pending
nothing = None

-- "The earlier word is zero at the blit's start"
abbrev pub start_from : Pointers → Sources → Flow
start_from pointers sources =
    record {
      pointers = pointers;
      sources = sources;
      earlier = record { a = 0; b = 0 };
      carry = 0;
      allzero = true;
      stored = 0;
      pending = nothing;
    }

unfoldable pub start : (file : List ℕ) → Flow
start file = start_from (pointers file) (sources file)

-- memory and the flow
pub record State : Type 0 where
  pub memory : List ℕ
  pub flow : Flow

abbrev pub state : (memory : List ℕ) → Flow → State
state memory flow = record { memory = memory; flow = flow }
