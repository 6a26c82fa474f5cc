-- Paper 02, W2: the final word waits, if D is used, for the place of D's pointer; it is stored and counted later.
use Rattle.std.specs.Prelude.{ℕ, ◌+◌, Bool, List, set, Option, None, Some, if◌then◌else◌}
use Rattle.area.specs.declared.types.Pending.{Pending}
use Rattle.area.specs.declared.types.Flow.{Flow}
use Rattle.area.specs.Flow.{State, state, nothing}
use Rattle.area.specs.With.{with_stores}

abbrev pub waiting : (used : Bool) → (place word : ℕ) → Option Pending
waiting used place word = if used then Some (record { place = place; word = word }) else None

unfoldable pub wait : (used : Bool) → (word : ℕ) → Flow → Flow
wait used word flow = with_stores flow.stored (waiting used flow.pointers.d.word word) flow

-- memory, and the count, with the pending word
unfoldable pub memory_with : Option Pending → (memory : List ℕ) → List ℕ
memory_with None memory = memory
memory_with (Some pending) memory = set memory pending.place pending.word

unfoldable pub count_with : Option Pending → (stored : ℕ) → ℕ
count_with None stored = stored
count_with (Some pending) stored = stored + 1

-- the pending word is stored, and nothing waits
unfoldable pub store_pending : State → State
store_pending now =
    state (memory_with now.flow.pending now.memory)
    (with_stores (count_with now.flow.pending now.flow.stored) nothing now.flow)
