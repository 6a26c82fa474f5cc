-- W2's order and an earlier store: a word may be stored before the next one's fetches where none of them is at its place.
use Rattle.word.proofs.Base.{◌≡◌, refl, ap, ℕ, zero, suc, ◌≤◌, arith, Bool, true, false, List, get_or-set_other}
use Rattle.std.specs.Prelude.{Option, None, Some}
use mathlib.Core.Logic.{◌≢◌}
use Rattle.word.specs.declared.types.Pointer.{Pointer}
use Rattle.word.specs.Types.{Uses}
use Rattle.word.specs.Repeat.{repeated}
use Rattle.area.specs.declared.types.Setup.{Setup}
use Rattle.area.specs.declared.types.Pending.{Pending}
use Rattle.area.specs.Types.{Pointers, Sources, Earlier}
use Rattle.area.specs.declared.types.Flow.{Flow}
use Rattle.area.specs.Flow.{State, state, nothing}
use Rattle.area.specs.Fetch.{fetched, fetch}
use Rattle.area.specs.Finish.{masked_a, result_word, final, finish}
use Rattle.area.specs.Store.{wait, memory_with, count_with, store_pending}
use Rattle.area.specs.Move.{move_on}
use Rattle.area.specs.Rows.{finished_word, stored_before, one_word, words, row_start, one_row}

-- no used source fetches the pending place first
abbrev pub ClearOf : (used : Bool) → Option Pending → (from : ℕ) → Type 0
ClearOf used pending from = used ≡ true → (waits : Pending) → pending ≡ Some waits → from ≢ waits.place

pub record Clear (uses : Uses) (pending : Option Pending) (pointers : Pointers) : Type 0 where
  pub a : ClearOf uses.a pending pointers.a.word
  pub b : ClearOf uses.b pending pointers.b.word
  pub c : ClearOf uses.c pending pointers.c.word

fetched-early : (used : Bool) (pending : Option Pending) (memory : List ℕ) (pointer : Pointer) (source : ℕ)
    → ClearOf used pending pointer.word
    → fetched used (memory_with pending memory) pointer source ≡ fetched used memory pointer source
unfolding fetched memory_with
fetched-early true (Some waits) memory pointer source clear = get_or-set_other memory waits.place pointer.word waits.word 0 (clear refl waits refl)
fetched-early true None memory pointer source clear = refl
fetched-early false pending memory pointer source clear = refl

-- the word that waits, stored before the next is fetched
one_word-early : (setup : Setup) (width remaining : ℕ) (now : State) → Clear setup.uses now.flow.pending now.flow.pointers
    → one_word setup width remaining (store_pending now) ≡ one_word setup width remaining now
unfolding one_word stored_before store_pending finished_word wait move_on finish final result_word masked_a fetch memory_with count_with
one_word-early setup width remaining now clear =
    rw (
      fetched-early setup.uses.a now.flow.pending now.memory now.flow.pointers.a now.flow.sources.a clear.a,
      fetched-early setup.uses.b now.flow.pending now.memory now.flow.pointers.b now.flow.sources.b clear.b,
      fetched-early setup.uses.c now.flow.pending now.memory now.flow.pointers.c now.flow.sources.c clear.c,
    )

-- and so before a whole row
words-early : (setup : Setup) (width n : ℕ) (now : State) → 1 ≤ n → Clear setup.uses now.flow.pending now.flow.pointers
    → words setup width n (store_pending now) ≡ words setup width n now
unfolding repeated
words-early setup width zero now none clear = absurd (omega arith)
words-early setup width (suc n) now some clear = ap (words setup width n) (one_word-early setup width n now clear)

pub one_row-early : (setup : Setup) (width : ℕ) (now : State) → 1 ≤ width → Clear setup.uses now.flow.pending now.flow.pointers
    → one_row setup width (store_pending now) ≡ one_row setup width now
unfolding one_row row_start store_pending
one_row-early setup width now some clear = rw (started, words-early setup width width (row_start setup now) some clear)
  where
    started : row_start setup (store_pending now) ≡ store_pending (row_start setup now)
    started = refl

pub store_pending-again : (now : State) → store_pending (store_pending now) ≡ store_pending now
unfolding store_pending memory_with count_with
store_pending-again now = refl

-- where none waits there is nothing to store
pub store_pending-of-nothing : (memory : List ℕ) (flow : Flow) → flow.pending ≡ nothing → store_pending (state memory flow) ≡ state memory flow
unfolding store_pending memory_with count_with
store_pending-of-nothing memory flow none =
    by flow.pointers flow.sources flow.earlier flow.carry flow.stored flow.allzero flow.pending none
  where
    by : (pointers : Pointers) (sources : Sources) (earlier : Earlier) (carry stored : ℕ) (allzero : Bool) (pending : Option Pending) → pending ≡ nothing
        → store_pending (state memory (record { pointers = pointers; sources = sources; earlier = earlier; carry = carry; allzero = allzero; stored = stored; pending = pending }))
        ≡ state memory (record { pointers = pointers; sources = sources; earlier = earlier; carry = carry; allzero = allzero; stored = stored; pending = pending })
    by pointers sources earlier carry stored allzero pending none = rw none
