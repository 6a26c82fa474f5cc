-- Laws of a blit's stores laid into a run, word by word and row by row.
use Rattle.word.proofs.Base.{◌≡◌, refl, sym, ap, ◌∙◌, ℕ, suc, ◌+◌, ◌-◌, ◌*◌, ◌<◌, ◌≤◌, arith}
use Rattle.word.proofs.Base.{eqb, List, [], ◌∷◌, length, set}
use Rattle.word.specs.Laid.{laid}
use Rattle.word.specs.Repeat.{repeated}
use Rattle.word.specs.Size.{height, width}
use Rattle.word.proofs.LaidLaws.{laid-of-append}
use Rattle.word.proofs.RepeatLaws.{repeated-done}
use Rattle.word.proofs.SizeLaws.{height-le, width-le}
use Rattle.area.specs.declared.types.Setup.{Setup}
use Rattle.area.specs.declared.types.Flow.{Flow}
use Rattle.area.specs.Setup.{shifts, setup}
use Rattle.area.specs.Flow.{State, state, start}
use Rattle.area.specs.declared.types.Finished.{Finished}
use Rattle.area.specs.With.{with_pointers, with_carry}
use Rattle.area.specs.Fetch.{fetch}
use Rattle.area.specs.Finish.{masked_a, result_word, final, finish}
use Rattle.area.specs.Store.{wait, store_pending}
use Rattle.area.specs.Move.{stepped, row_end}
use Rattle.area.specs.Rows.{finished_word, one_word, words, row_start, one_row, rows}
use Rattle.area.proofs.RowsLaws.{fetched_on, one_word-of-parts, words-room, rows-room}
use Rattle.stores.specs.Stores.{Store, store, row_stores, blit_stores, stores, all_zero}
use Rattle.stores.proofs.StoresLaws.{row_stores-length, rows-allzero}

-- a memory of no words is the empty list
none-is-empty : (memory : List ℕ) → length memory ≡ 0 → memory ≡ []
none-is-empty [] none = refl
none-is-empty (word ∷ rest) none = absurd (omega arith)

-- a word, done on a memory of no words
pub next_word-of-parts : (setup : Setup) (width remaining : ℕ) (after : List ℕ) (flow fetched stored waiting end : Flow) (made : Finished)
    → fetched ≡ fetched_on setup.direction setup.uses [] flow
    → made ≡ finish setup (eqb (remaining + 1) width) (eqb remaining 0) fetched
    → state after stored ≡ store_pending (state [] made.flow)
    → waiting ≡ wait setup.uses.d made.word stored
    → end
    ≡ with_pointers
    (record {
      a = waiting.pointers.a;
      b = waiting.pointers.b;
      c = waiting.pointers.c;
      d = stepped setup.direction setup.uses.d waiting.pointers.d;
    })
    waiting
    → length after ≡ 0
    → state [] end ≡ one_word setup width remaining (state [] flow)
next_word-of-parts setup width remaining after flow fetched stored waiting end made fetches finishes stores waits moves none =
    ap (λ (m : List ℕ). state m end) (sym (none-is-empty after none))
    ∙ one_word-of-parts setup width remaining [] after flow fetched stored waiting end made fetches finishes stores waits moves

pub next_word-word : (setup : Setup) (width remaining : ℕ) (flow fetched : Flow) (made : Finished)
    → fetched ≡ fetched_on setup.direction setup.uses [] flow
    → made ≡ finish setup (eqb (remaining + 1) width) (eqb remaining 0) fetched
    → made.word ≡ (finished_word setup width remaining (state [] flow)).word
unfolding finished_word finish final result_word masked_a fetch
next_word-word setup width remaining flow fetched made fetches finishes = rw (finishes, fetches) refl

-- a turn of a loop that counts up to n: so many steps are left before it, and one fewer after it
pub left-before : (n i : ℕ) → i < n → n - i ≡ suc (n - (i + 1))
left-before n i more = omega arith

pub left-after : (n i : ℕ) → n - i - 1 ≡ n - (i + 1)
left-after n i = omega arith

pub repeated-on : {Now : Type 0} (step : ℕ → Now → Now) (n i : ℕ) (now next whole : Now)
    → i < n → next ≡ step (n - i - 1) now → repeated step (n - i) now ≡ whole → repeated step (n - (i + 1)) next ≡ whole
unfolding repeated
repeated-on step n i now next whole more turn same =
    rw (turn, left-after n i) (sym (ap (λ (left : ℕ). repeated step left now) (left-before n i more)) ∙ same)

pub repeated-over : {Now : Type 0} (step : ℕ → Now → Now) (n i : ℕ) (now whole : Now)
    → n ≤ i → repeated step (n - i) now ≡ whole → now ≡ whole
repeated-over step n i now whole none same = repeated-done step (n - i) now whole (omega arith) same

pub words-room-on : (setup : Setup) (width i : ℕ) (flow next : Flow)
    → i < width → state [] next ≡ one_word setup width (width - i - 1) (state [] flow)
    → flow.stored + (width - i) < 4294967296 → next.stored + (width - (i + 1)) < 4294967296
words-room-on setup width i flow next more word room =
    let after = words-room setup width (width - i) [] [] flow next (omega arith) word room in
    omega arith

pub rows-room-on : (setup : Setup) (width height i : ℕ) (flow next : Flow)
    → i < height → width ≤ 64 → state [] next ≡ one_row setup width (state [] flow)
    → flow.stored + (height - i) * 64 < 4294967296 → next.stored + (height - (i + 1)) * 64 < 4294967296
rows-room-on setup width height i flow next more narrow row room =
    let after = rows-room setup width (height - i) [] [] flow next (omega arith) narrow row room in
    omega arith

module _ (setup : Setup) (width : ℕ) where
  -- a word of a row
  row-step : (n at : ℕ) (flow : Flow) (run : List Store)
      → laid (row_stores setup width (suc n) (state [] flow)) at run
      ≡ laid (row_stores setup width n (one_word setup width n (state [] flow))) (at + 1)
      (set run at (store flow.pointers.d (finished_word setup width n (state [] flow)).word))
  unfolding row_stores laid
  row-step n at flow run = refl

  pub row-turn : (i at to : ℕ) (flow after : Flow) (run next whole : List Store)
      → i < width
      → next ≡ set run at (store flow.pointers.d (finished_word setup width (width - i - 1) (state [] flow)).word)
      → to ≡ at + 1
      → state [] after ≡ one_word setup width (width - i - 1) (state [] flow)
      → laid (row_stores setup width (width - i) (state [] flow)) at run ≡ whole
      → laid (row_stores setup width (width - (i + 1)) (state [] after)) to next ≡ whole
  row-turn i at to flow after run next whole more lays moves does so_far =
      rw (lays, moves, does, left-after width i)
      (sym (row-step (width - (i + 1)) at flow run)
      ∙ sym (ap (λ (left : ℕ). laid (row_stores setup width left (state [] flow)) at run) (left-before width i more))
      ∙ so_far)

  pub row-end : (i at : ℕ) (flow : Flow) (run whole : List Store)
      → width ≤ i → laid (row_stores setup width (width - i) (state [] flow)) at run ≡ whole → run ≡ whole
  unfolding row_stores laid
  row-end i at flow run whole none so_far =
      let over : width - i ≡ 0 = omega arith in
      sym (ap (λ (left : ℕ). laid (row_stores setup width left (state [] flow)) at run) over) ∙ so_far

  -- a row with its start
  pub row-of-started : (at : ℕ) (flow started : Flow) (run next : List Store)
      → started ≡ with_carry setup.carry flow
      → next ≡ laid (row_stores setup width width (state [] started)) at run
      → next ≡ laid (row_stores setup width width (row_start setup (state [] flow))) at run
  unfolding row_start
  row-of-started at flow started run next starts lays = rw starts at lays

  -- a row of a blit
  blit-step : (n at : ℕ) (flow : Flow) (run : List Store)
      → laid (blit_stores setup width (suc n) (state [] flow)) at run
      ≡ laid (blit_stores setup width n (one_row setup width (state [] flow))) (at + width)
      (laid (row_stores setup width width (row_start setup (state [] flow))) at run)
  unfolding blit_stores
  blit-step n at flow run =
      let row : List Store = row_stores setup width width (row_start setup (state [] flow)) in
      let rest : List Store = blit_stores setup width n (one_row setup width (state [] flow)) in
      laid-of-append row rest at run
      ∙ ap (λ (many : ℕ). laid rest (at + many) (laid row at run)) (row_stores-length setup width width (row_start setup (state [] flow)))

  pub blit-turn : (height i at to : ℕ) (flow after : Flow) (run next whole : List Store)
      → i < height
      → next ≡ laid (row_stores setup width width (row_start setup (state [] flow))) at run
      → to ≡ at + width
      → state [] after ≡ one_row setup width (state [] flow)
      → laid (blit_stores setup width (height - i) (state [] flow)) at run ≡ whole
      → laid (blit_stores setup width (height - (i + 1)) (state [] after)) to next ≡ whole
  blit-turn height i at to flow after run next whole more lays moves does so_far =
      rw (lays, moves, does)
      (sym (blit-step (height - (i + 1)) at flow run)
      ∙ sym (ap (λ (left : ℕ). laid (blit_stores setup width left (state [] flow)) at run) (left-before height i more))
      ∙ so_far)

  pub blit-end : (height i at : ℕ) (flow : Flow) (run whole : List Store)
      → height ≤ i → laid (blit_stores setup width (height - i) (state [] flow)) at run ≡ whole → run ≡ whole
  unfolding blit_stores laid
  blit-end height i at flow run whole none so_far =
      let over : height - i ≡ 0 = omega arith in
      sym (ap (λ (left : ℕ). laid (blit_stores setup width left (state [] flow)) at run) over) ∙ so_far

pub one_row-of-started : (setup : Setup) (width : ℕ) (flow started end after : Flow)
    → started ≡ with_carry setup.carry flow
    → state [] end ≡ words setup width width (state [] started)
    → after ≡ row_end setup.direction setup.uses setup.modulos end
    → state [] after ≡ one_row setup width (state [] flow)
unfolding one_row row_start
one_row-of-started setup width flow started end after starts does turns =
    let done : state [] end ≡ words setup width width (state [] (with_carry setup.carry flow)) = rw starts at does in
    rw (turns, ← done)

-- a blit's set-up and start
module _ (file : List ℕ) (size wide tall : ℕ) (set-up : Setup) (flow : Flow)
    (is_set : set-up ≡ setup file) (is-flow : flow ≡ start file) (is_IsWide : wide ≡ width size) (is-tall : tall ≡ height size) where
  pub shift-a-few : set-up.shifts.a < 16
  unfolding setup shifts
  shift-a-few = rw is_set (omega arith)

  pub shift-b-few : set-up.shifts.b < 16
  unfolding setup shifts
  shift-b-few = rw is_set (omega arith)

  pub stores-room : flow.stored + tall * 64 < 4294967296
  unfolding start
  stores-room = rw (is-flow, is-tall) (omega (arith, height-le size))

  pub stores-narrow : wide ≤ 64
  stores-narrow = rw is_IsWide (width-le size)

  pub stores-low : tall ≤ 1024
  stores-low = rw is-tall (height-le size)

  pub stores-laid : (run next : List Store)
      → next ≡ laid (blit_stores set-up wide tall (state [] flow)) 0 run → next ≡ laid (stores file size) 0 run
  unfolding stores
  stores-laid run next lays = rw (is_set, is-flow, is_IsWide, is-tall) at lays

  pub stores-allzero : (end : Flow) → state [] end ≡ rows set-up wide tall (state [] flow) → end.allzero ≡ all_zero (stores file size)
  unfolding stores start
  stores-allzero end does =
      ap (λ (last : State). last.flow.allzero) (rw (is_set, is-flow, is_IsWide, is-tall) at does)
      ∙ rows-allzero (setup file) (width size) (height size) (state [] (start file))
