-- Laws of words and rows: how a word is put together from its parts, and how many words are stored.
use Rattle.word.proofs.Base.{◌≡◌, ap, ◌∙◌, ℕ, zero, suc, ◌+◌, ◌-◌, ◌*◌, ◌<◌, ◌≤◌, arith, Bool, eqb, List, length}
use Rattle.word.specs.Repeat.{repeated}
use Rattle.word.proofs.RepeatLaws.{repeated-keeps}
use Rattle.word.specs.declared.types.Direction.{Direction}
use Rattle.word.specs.Types.{Uses}
use Rattle.area.specs.declared.types.Setup.{Setup}
use Rattle.area.specs.declared.types.Flow.{Flow}
use Rattle.area.specs.declared.types.Finished.{Finished}
use Rattle.area.specs.Flow.{State, state}
use Rattle.area.specs.With.{with_pointers, with_carry}
use Rattle.area.specs.Fetch.{fetch}
use Rattle.area.specs.Finish.{masked_a, result_word, final, finish}
use Rattle.area.specs.Store.{wait, store_pending}
use Rattle.area.specs.Move.{stepped, move_on, row_end}
use Rattle.area.specs.Rows.{finished_word, stored_before, one_word, words, row_start, one_row, rows, area_blit}
use Rattle.area.proofs.StoreLaws.{memory_with-keeps-length, count_with-le, store_pending-keeps-length}

-- the sources fetched, and their pointers moved on
abbrev pub fetched_on : Direction → Uses → (memory : List ℕ) → Flow → Flow
fetched_on direction uses memory flow =
    with_pointers
    (record {
      a = stepped direction uses.a flow.pointers.a;
      b = stepped direction uses.b flow.pointers.b;
      c = stepped direction uses.c flow.pointers.c;
      d = flow.pointers.d;
    })
    (fetch uses memory flow)

-- the count of a finished word is that before it
pub finished-room : (setup : Setup) (direction : Direction) (uses : Uses) (first last : Bool) (memory : List ℕ) (flow fetched : Flow) (made : Finished)
    → fetched ≡ fetched_on direction uses memory flow → made ≡ finish setup first last fetched
    → flow.stored < 4294967295 → made.flow.stored < 4294967295
unfolding fetch finish
finished-room setup direction uses first last memory flow fetched made fetches finishes room = rw (finishes, fetches) room

pub one_word-of-parts : (setup : Setup) (width remaining : ℕ) (memory after : List ℕ) (flow fetched stored waiting end : Flow) (made : Finished)
    → fetched ≡ fetched_on setup.direction setup.uses memory flow
    → made ≡ finish setup (eqb (remaining + 1) width) (eqb remaining 0) fetched
    → state after stored ≡ store_pending (state memory made.flow)
    → waiting ≡ wait setup.uses.d made.word stored
    → end
    ≡ with_pointers
    (record {
      a = waiting.pointers.a;
      b = waiting.pointers.b;
      c = waiting.pointers.c;
      d = stepped setup.direction setup.uses.d waiting.pointers.d;
    })
    waiting
    → state after end ≡ one_word setup width remaining (state memory flow)
unfolding one_word stored_before store_pending finished_word wait move_on finish final result_word masked_a fetch
one_word-of-parts setup width remaining memory after flow fetched stored waiting end made fetches finishes stores waits moves =
    let memory-is : after ≡ (store_pending (state memory made.flow)).memory = ap (λ (now : State). now.memory) stores in
    let flow-is : stored ≡ (store_pending (state memory made.flow)).flow = ap (λ (now : State). now.flow) stores in
    rw (moves, waits, memory-is, flow-is, finishes, fetches)

pub one_word-counts : (setup : Setup) (width remaining : ℕ) (now : State) → (one_word setup width remaining now).flow.stored ≤ now.flow.stored + 1
unfolding one_word stored_before store_pending wait move_on finished_word finish fetch
one_word-counts setup width remaining now =
    count_with-le now.flow.pending now.flow.stored

pub words_count : (setup : Setup) (width remaining : ℕ) (now : State) → (words setup width remaining now).flow.stored ≤ now.flow.stored + remaining
unfolding repeated
words_count setup width zero now = omega arith
words_count setup width (suc remaining) now =
    omega (arith, words_count setup width remaining (one_word setup width remaining now), one_word-counts setup width remaining now)

-- room for the count after a word, and after a row
pub words-room : (setup : Setup) (width remaining : ℕ) (memory after : List ℕ) (flow next : Flow)
    → 0 < remaining → state after next ≡ one_word setup width (remaining - 1) (state memory flow)
    → flow.stored + remaining < 4294967296 → next.stored + (remaining - 1) < 4294967296
words-room setup width remaining memory after flow next more word room =
    let count : next.stored ≤ flow.stored + 1 =
    rw (ap (λ (end : State). end.flow.stored) word) (one_word-counts setup width (remaining - 1) (state memory flow)) in
    omega arith

pub row_start-room : (setup : Setup) (width : ℕ) (flow started : Flow)
    → started ≡ with_carry setup.carry flow → flow.stored + width < 4294967296 → started.stored + width < 4294967296
row_start-room setup width flow started starts room = rw starts room

pub one_row-of-parts : (setup : Setup) (width : ℕ) (memory after : List ℕ) (flow started end turned : Flow)
    → started ≡ with_carry setup.carry flow
    → state after end ≡ words setup width width (state memory started)
    → turned ≡ row_end setup.direction setup.uses setup.modulos end
    → state after turned ≡ one_row setup width (state memory flow)
unfolding one_row row_start
one_row-of-parts setup width memory after flow started end turned starts does turns = rw (turns, ← starts, ← does)

pub one_row-counts : (setup : Setup) (width : ℕ) (now : State) → (one_row setup width now).flow.stored ≤ now.flow.stored + width
unfolding one_row row_start row_end
one_row-counts setup width now = words_count setup width width (row_start setup now)

pub rows-room : (setup : Setup) (width remaining : ℕ) (memory after : List ℕ) (flow next : Flow)
    → 0 < remaining → width ≤ 64 → state after next ≡ one_row setup width (state memory flow)
    → flow.stored + remaining * 64 < 4294967296 → next.stored + (remaining - 1) * 64 < 4294967296
rows-room setup width remaining memory after flow next more narrow row room =
    let count : next.stored ≤ flow.stored + width =
    rw (ap (λ (end : State). end.flow.stored) row) (one_row-counts setup width (state memory flow)) in
    omega arith

-- all rows store at most 64 words each, so that there is room for the last
rows-count : (setup : Setup) (width remaining : ℕ) (now : State) → width ≤ 64
    → (rows setup width remaining now).flow.stored ≤ now.flow.stored + remaining * 64
unfolding repeated
rows-count setup width zero now narrow = omega arith
rows-count setup width (suc remaining) now narrow =
    omega (arith, rows-count setup width remaining (one_row setup width now) narrow, one_row-counts setup width now)

pub rows-leave-room : (setup : Setup) (width remaining : ℕ) (memory after : List ℕ) (flow end : Flow) → width ≤ 64
    → state after end ≡ rows setup width remaining (state memory flow) → flow.stored + remaining * 64 < 4294967295 → end.stored < 4294967295
rows-leave-room setup width remaining memory after flow end narrow does room =
    let count : end.stored ≤ flow.stored + remaining * 64 =
    rw (ap (λ (end : State). end.flow.stored) does) (rows-count setup width remaining (state memory flow) narrow) in
    omega arith

pub area_blit-of-parts : (setup : Setup) (width remaining : ℕ) (memory after last : List ℕ) (flow end stored : Flow)
    → state after end ≡ rows setup width remaining (state memory flow)
    → state last stored ≡ store_pending (state after end)
    → state last stored ≡ area_blit setup width remaining (state memory flow)
unfolding area_blit
area_blit-of-parts setup width remaining memory after last flow end stored does stores = rw (← does) stores

-- memory keeps its length
pub one_word-keeps-length : (setup : Setup) (width remaining : ℕ) (now : State)
    → length (one_word setup width remaining now).memory ≡ length now.memory
unfolding one_word stored_before store_pending finished_word finish fetch
one_word-keeps-length setup width remaining now =
    memory_with-keeps-length now.flow.pending now.memory

pub one_row-keeps-length : (setup : Setup) (width : ℕ) (now : State)
    → length (one_row setup width now).memory ≡ length now.memory
unfolding one_row row_start
one_row-keeps-length setup width now =
    repeated-keeps (one_word setup width) (λ (end : State). length end.memory) (one_word-keeps-length setup width) width (row_start setup now)

rows-keep-length : (setup : Setup) (width remaining : ℕ) (now : State)
    → length (rows setup width remaining now).memory ≡ length now.memory
rows-keep-length setup width remaining now =
    repeated-keeps (λ _. one_row setup width) (λ (end : State). length end.memory) (λ _. one_row-keeps-length setup width) remaining now

pub area_blit-keeps-length : (setup : Setup) (width remaining : ℕ) (now : State)
    → length (area_blit setup width remaining now).memory ≡ length now.memory
unfolding area_blit
area_blit-keeps-length setup width remaining now = store_pending-keeps-length (rows setup width remaining now) ∙ rows-keep-length setup width remaining now
