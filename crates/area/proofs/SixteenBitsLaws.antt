-- Words of 16 bits stay so through a blit: those of memory, of the data registers, and the one that waits to be stored.
use Rattle.std.specs.Prelude.{Option, None, Some}
use Rattle.area.specs.declared.types.Pending.{Pending}
use Rattle.word.proofs.Base.{ℕ, ◌+◌, ◌<◌, arith, Bool, true, false, eqb, List}
use Rattle.word.specs.declared.types.Pointer.{Pointer}
use Rattle.word.specs.Word.{SixteenBits}
use Rattle.word.proofs.WordLaws.{SixteenBits-of-set}
use Rattle.word.proofs.RepeatLaws.{repeated-holds}
use Rattle.word.proofs.LogicLaws.{logic-lt}
use Rattle.word.proofs.FillLaws.{filled-lt}
use Rattle.area.specs.declared.types.Flow.{Flow}
use Rattle.area.specs.declared.types.Setup.{Setup}
use Rattle.area.specs.Flow.{State}
use Rattle.area.specs.Fetch.{fetched, fetch}
use Rattle.area.specs.Finish.{result_word, final, finish}
use Rattle.area.specs.Store.{waiting, wait, memory_with, store_pending}
use Rattle.area.specs.Move.{move_on, row_end}
use Rattle.area.specs.Rows.{finished_word, stored_before, one_word, words, row_start, one_row, rows, area_blit}

-- the word that waits, 0 where none does
abbrev pub word_of : Option Pending → ℕ
word_of None = 0
word_of (Some pending) = pending.word

-- memory, the data registers and the word that waits
pub record Bounded (now : State) : Type 0 where
  pub memory : SixteenBits now.memory
  pub a : now.flow.sources.a < 65536
  pub b : now.flow.sources.b < 65536
  pub c : now.flow.sources.c < 65536
  pub pending : word_of now.flow.pending < 65536

fetched-lt : (used : Bool) (memory : List ℕ) (pointer : Pointer) (source : ℕ) → SixteenBits memory → source < 65536
    → fetched used memory pointer source < 65536
unfolding fetched
fetched-lt true memory pointer source all small = all pointer.word
fetched-lt false memory pointer source all small = small

final-lt : (setup : Setup) (first last : Bool) (flow : Flow) → (final setup first last flow).word < 65536
unfolding final result_word
final-lt setup first last flow = filled-lt setup.fill flow.carry _ (logic-lt setup.function _ _ _)

memory_with-bounded : (pending : Option Pending) (memory : List ℕ) → SixteenBits memory → word_of pending < 65536
    → SixteenBits (memory_with pending memory)
unfolding memory_with
memory_with-bounded (Some pending) memory all small = SixteenBits-of-set memory pending.place pending.word all small
memory_with-bounded None memory all small = all

waiting-bounded : (used : Bool) (place word : ℕ) → word < 65536 → word_of (waiting used place word) < 65536
waiting-bounded true place word small = small
waiting-bounded false place word small = omega arith

store_pending-memory-bounded : (now : State) → Bounded now → SixteenBits (store_pending now).memory
unfolding store_pending
store_pending-memory-bounded now bounded =
    memory_with-bounded now.flow.pending now.memory bounded.memory bounded.pending

module _ (setup : Setup) (width : ℕ) where
  one_word-bounded : (remaining : ℕ) (now : State) → Bounded now → Bounded (one_word setup width remaining now)
  unfolding one_word stored_before store_pending wait move_on finished_word finish fetch
  one_word-bounded remaining now bounded =
      record {
        memory = store_pending-memory-bounded now bounded;
        a = fetched-lt setup.uses.a now.memory now.flow.pointers.a now.flow.sources.a bounded.memory bounded.a;
        b = fetched-lt setup.uses.b now.memory now.flow.pointers.b now.flow.sources.b bounded.memory bounded.b;
        c = fetched-lt setup.uses.c now.memory now.flow.pointers.c now.flow.sources.c bounded.memory bounded.c;
        pending = waiting-bounded setup.uses.d _ _ (final-lt setup (eqb (remaining + 1) width) (eqb remaining 0) (fetch setup.uses now.memory now.flow));
      }

  row_start-bounded : (now : State) → Bounded now → Bounded (row_start setup now)
  unfolding row_start
  row_start-bounded now bounded =
      record { memory = bounded.memory; a = bounded.a; b = bounded.b; c = bounded.c; pending = bounded.pending }

  one_row-bounded : (now : State) → Bounded now → Bounded (one_row setup width now)
  unfolding one_row row_end
  one_row-bounded now bounded =
      let end : Bounded (words setup width width (row_start setup now)) =
      repeated-holds (one_word setup width) Bounded one_word-bounded width (row_start setup now) (row_start-bounded now bounded) in
      record { memory = end.memory; a = end.a; b = end.b; c = end.c; pending = end.pending }

  rows-bounded : (remaining : ℕ) (now : State) → Bounded now → Bounded (rows setup width remaining now)
  rows-bounded remaining now bounded = repeated-holds (λ _. one_row setup width) Bounded (λ _ here holds. one_row-bounded here holds) remaining now bounded

  -- and the last word stored: nothing waits
  pub area_blit-bounded : (height : ℕ) (now : State) → Bounded now → Bounded (area_blit setup width height now)
  unfolding area_blit store_pending
  area_blit-bounded height now bounded =
      let end : Bounded (rows setup width height now) = rows-bounded height now bounded in
      record {
        memory = store_pending-memory-bounded (rows setup width height now) end;
        a = end.a;
        b = end.b;
        c = end.c;
        pending = omega arith;
      }
