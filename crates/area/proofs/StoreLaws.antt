-- Laws of the pending word and its store.
use Rattle.std.specs.Prelude.{Option, None, Some}
use Rattle.std.specs.Bool.{then_some}
use Rattle.word.proofs.Base.{◌≡◌, refl, ap, ℕ, ◌+◌, ◌≤◌, arith, Bool, true, false, List, [], length, set, length-set}
use Rattle.area.specs.declared.types.Pending.{Pending}
use Rattle.area.specs.declared.types.Flow.{Flow}
use Rattle.area.specs.Flow.{State, state, nothing}
use Rattle.area.specs.With.{with_stores}
use Rattle.area.specs.Store.{waiting, memory_with, count_with, store_pending}

pub store_pending-of-parts : (memory after : List ℕ) (flow end : Flow) (count : ℕ)
    → after ≡ memory_with flow.pending memory → count ≡ count_with flow.pending flow.stored → end ≡ with_stores count nothing flow
    → state after end ≡ store_pending (state memory flow)
unfolding store_pending
store_pending-of-parts memory after flow end count stores counts ends = rw (stores, ends, counts)

-- a word that waits if D is used, as the code has it
pub then_some-waits : (used : Bool) (place word : ℕ) → then_some used (record { place = place; word = word }) ≡ waiting used place word
then_some-waits true place word = refl
then_some-waits false place word = refl

-- where one waits, D is used, and the place is its own
abbrev place_of : Option Pending → ℕ
place_of None = 0
place_of (Some pending) = pending.place

abbrev some_of : Option Pending → ℕ
some_of None = 0
some_of (Some pending) = 1

pub waits-if-used : (used : Bool) (place word : ℕ) (waits : Pending) → waiting used place word ≡ Some waits
    → (used ≡ true) × (place ≡ waits.place)
waits-if-used true place word waits is = (refl, ap place_of is)
waits-if-used false place word waits is = let same : 0 ≡ 1 = ap some_of is in absurd (omega (arith, same))

-- memory and count with it
pub memory_with-of-used : (used : Bool) (place word : ℕ) (memory : List ℕ) → used ≡ true
    → memory_with (waiting used place word) memory ≡ set memory place word
unfolding memory_with
memory_with-of-used used place word memory uses = rw uses

pub memory_with-of-unused : (used : Bool) (place word : ℕ) (memory : List ℕ) → used ≡ false
    → memory_with (waiting used place word) memory ≡ memory
unfolding memory_with
memory_with-of-unused used place word memory idle = rw idle

pub memory_with-keeps-length : (pending : Option Pending) (memory : List ℕ) → length (memory_with pending memory) ≡ length memory
unfolding memory_with
memory_with-keeps-length (Some pending) memory = length-set memory pending.place pending.word
memory_with-keeps-length None memory = refl

pub memory_with-of-empty : (pending : Option Pending) → memory_with pending [] ≡ []
unfolding memory_with
memory_with-of-empty (Some pending) = refl
memory_with-of-empty None = refl

pub count_with-le : (pending : Option Pending) (stored : ℕ) → count_with pending stored ≤ stored + 1
unfolding count_with
count_with-le (Some pending) stored = omega arith
count_with-le None stored = omega arith

pub store_pending-keeps-length : (now : State) → length (store_pending now).memory ≡ length now.memory
unfolding store_pending
store_pending-keeps-length now = memory_with-keeps-length now.flow.pending now.memory
