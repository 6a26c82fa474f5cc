-- A settled blit's words, run, leave what the blit leaves.
use Rattle.std.specs.Prelude.{if◌then◌else◌}
use Rattle.word.proofs.Base.{◌≡◌, refl, sym, ap, ◌∙◌, ℕ, ◌+◌, ◌*◌, zero-add, arith, Bool, true, false, ◌||◌, List, [], ◌++◌, length, set}
use mathlib.Core.Bool.{or-false}
use mathlib.Core.List.{append_assoc}
use native.Mathlib.Nat.{mul-one}
use Rattle.word.specs.declared.types.Pointer.{Pointer}
use Rattle.word.specs.Pointer.{high, low}
use Rattle.word.specs.Size.{height, width}
use Rattle.file.specs.Places.{pointer_a, pointer_b, pointer_c, pointer_d, source_a, source_b, source_c, flag}
use Rattle.word.specs.Types.{Uses}
use Rattle.area.specs.Types.{Pointers, Sources}
use Rattle.area.specs.Setup.{setup}
use Rattle.area.specs.Flow.{state, pointers, start}
use Rattle.area.specs.Store.{memory_with, count_with, store_pending}
use Rattle.area.specs.Rows.{area_blit}
use Rattle.area.proofs.CountLaws.{each, each-of-used, rows-count-all}
use Rattle.word.specs.Control.{line}
use Rattle.file.specs.File.{con1}
use Rattle.refusal.specs.Plan.{area_plan}
use Rattle.refusal.specs.Refusal.{step_refusal}
use Rattle.round.specs.Round.{goes_round}
use Rattle.file.specs.Pointers.{put_flag}
use Rattle.blit.specs.WriteBack.{put_pointer, put_pointers, put_source, put_sources}
use Rattle.blit.specs.Blit.{Outcome, finished, area_done, done, answered, blit_step}
use Rattle.blit.proofs.BlitLaws.{done-number}
use Rattle.file.proofs.PointersLaws.{pointer_at-lt}
use Rattle.refusal.proofs.RefusalLaws.{step_refusal-of-none, step_refusal-without-a, leaving-of-d}
use Rattle.runner.specs.Run.{machine, after, run_from}
use Rattle.stores.specs.Stores.{Store, stores, all_zero, final_d}
use Rattle.stores.proofs.OnlyDLaws.{OnlyD}
use Rattle.stores.proofs.StoresLaws.{stores-length, rows-allzero, rows-move-d}
use Rattle.stores.proofs.OnMemoryLaws.{stored_into, Inside, rows-store, blit_stores-on-memory, blit_stores-inside}
use Rattle.settled.specs.Words.{stores_words, pointer_words, flag_words, settled_words}
use Rattle.settled.proofs.StoreLaws.{run-of-end}
use Rattle.settled.proofs.RunLaws.{after_stores, run-of-stores}

-- what a blit that uses D alone writes back: D's pointer
put_pointer-of-unused : (used : Bool) (place : ℕ) (pointer : Pointer) (file : List ℕ) → used ≡ false → put_pointer used place pointer file ≡ file
unfolding put_pointer
put_pointer-of-unused used place pointer file idle = rw idle

put_pointer-of-used : (used : Bool) (place : ℕ) (pointer : Pointer) (file : List ℕ) → used ≡ true
    → put_pointer used place pointer file ≡ set (set file place (high pointer)) (place + 1) (low pointer)
unfolding put_pointer
put_pointer-of-used used place pointer file uses = rw uses

put_source-of-unused : (used : Bool) (place word : ℕ) (file : List ℕ) → used ≡ false → put_source used place word file ≡ file
unfolding put_source
put_source-of-unused used place word file idle = rw idle

written_back : (uses : Uses) (at : Pointers) (sources : Sources) (file : List ℕ) → OnlyD uses
    → put_sources uses sources (put_pointers uses at file) ≡ set (set file pointer_d (high at.d)) (pointer_d + 1) (low at.d)
unfolding put_sources put_pointers
written_back uses at sources file only =
    put_source-of-unused uses.c source_c sources.c _ only.c
    ∙ put_source-of-unused uses.b source_b sources.b _ only.b
    ∙ put_source-of-unused uses.a source_a sources.a _ only.a
    ∙ put_pointer-of-used uses.d pointer_d at.d _ only.d
    ∙ ap (λ (rest : List ℕ). set (set rest pointer_d (high at.d)) (pointer_d + 1) (low at.d))
    (put_pointer-of-unused uses.c pointer_c at.c _ only.c
    ∙ put_pointer-of-unused uses.b pointer_b at.b _ only.b
    ∙ put_pointer-of-unused uses.a pointer_a at.a file only.a)

-- a blit that uses D alone and isn't refused is an area blit
pub area-of-only-d : (n : ℕ) (file : List ℕ) (size : ℕ) → OnlyD (setup file).uses → step_refusal n file size ≡ 0 → line (con1 file) ≡ false
unfolding setup
area-of-only-d n file size only lawful = by_bit (line (con1 file)) refl
  where
    by_bit : (bit : Bool) → line (con1 file) ≡ bit → bit ≡ false
    by_bit true lined = let refused : ◌≡◌ {A = ℕ} 18 0 = sym (step_refusal-without-a n file size lined only.a) ∙ lawful in absurd (omega arith)
    by_bit false area = refl

blit_step-of-lawful : (memory file : List ℕ) (size : ℕ) → line (con1 file) ≡ false → step_refusal (length memory) file size ≡ 0
    → blit_step memory file size ≡ area_done file (goes_round file size) (finished memory file size)
unfolding blit_step answered done
blit_step-of-lawful memory file size area lawful = rw (lawful, area)

-- the place after a settled blit's words
unfoldable pub after_settled : (at size : ℕ) → ℕ
after_settled at size = after_stores (height size * width size) at + 1 + 1 + 1 + 1 + 1

-- what a blit that uses D alone leaves: its stores in memory, D's pointer, the flag, and every word counted
module _ (memory file : List ℕ) (size : ℕ) (only : OnlyD (setup file).uses) where
  memory-of-stores : (finished memory file size).memory ≡ stored_into (stores file size) memory
  unfolding finished area_blit stores start store_pending memory_with
  memory-of-stores = rows-store (setup file) only (width size) (height size) memory (start file)

  d-of-stores : (finished memory file size).flow.pointers.d ≡ final_d file size
  unfolding finished area_blit store_pending final_d start
  d-of-stores = rows-move-d (setup file) (width size) (height size) (state memory (start file)) only.d

  flag-of-stores : (finished memory file size).flow.allzero ≡ all_zero (stores file size)
  unfolding finished area_blit store_pending stores start
  flag-of-stores =
      rows-allzero (setup file) (width size) (height size) (state memory (start file))
      ∙ ap all_zero (blit_stores-on-memory (setup file) only (width size) (height size) memory (start file))

  count-of-stores : (finished memory file size).flow.stored ≡ length (stores file size)
  unfolding finished area_blit start store_pending count_with
  count-of-stores =
      rows-count-all (setup file) (width size) (height size) (state memory (start file))
      ∙ zero-add (height size * (width size * each (setup file).uses.d))
      ∙ ap (λ (one : ℕ). height size * (width size * one)) (each-of-used (setup file).uses.d only.d)
      ∙ ap (λ (wide : ℕ). height size * wide) (mul-one (width size))
      ∙ sym (stores-length file size)

  module _ (lawful : step_refusal (length memory) file size ≡ 0) where
    area : line (con1 file) ≡ false
    area = area-of-only-d (length memory) file size only lawful

    stores-inside : Inside (length memory) (stores file size)
    unfolding stores start pointers
    stores-inside =
        blit_stores-inside (setup file) only (width size) (length memory) (height size) (state [] (start file)) (pointer_at-lt file pointer_d)
        (leaving-of-d (length memory) (area_plan file size) only.d (step_refusal-of-none (length memory) file size area lawful))

    -- what a settled blit leaves in the file
    pub blit_step-file : (blit_step memory file size).file
        ≡ set (set (set file pointer_d (high (final_d file size))) (pointer_d + 1) (low (final_d file size))) flag (if all_zero (stores file size) then 1 else 0)
    unfolding area_done put_flag
    blit_step-file =
        ap (λ (outcome : Outcome). outcome.file) (blit_step-of-lawful memory file size area lawful)
        ∙ ap (λ (written : List ℕ). set written flag (if (finished memory file size).flow.allzero then 1 else 0))
        (written_back (setup file).uses (finished memory file size).flow.pointers (finished memory file size).flow.sources file only)
        ∙ ap (λ (to : Pointer). set (set (set file pointer_d (high to)) (pointer_d + 1) (low to)) flag (if (finished memory file size).flow.allzero then 1 else 0)) d-of-stores
        ∙ ap (λ (zero : Bool). set (set (set file pointer_d (high (final_d file size))) (pointer_d + 1) (low (final_d file size))) flag (if zero then 1 else 0)) flag-of-stores

    -- and in the machine, where it doesn't go round
    after-blit : (stored : ℕ) (round : Bool) → goes_round file size ≡ false → after (machine memory file stored round) (blit_step memory file size)
        ≡ machine (stored_into (stores file size) memory)
        (set (set (set file pointer_d (high (final_d file size))) (pointer_d + 1) (low (final_d file size))) flag (if all_zero (stores file size) then 1 else 0))
        (stored + length (stores file size)) round
    unfolding area_done
    after-blit stored round stays =
        let does = blit_step-of-lawful memory file size area lawful in
        same
        (ap (λ (outcome : Outcome). outcome.memory) does ∙ memory-of-stores)
        blit_step-file
        (ap (λ (count : ℕ). stored + count) (ap (λ (outcome : Outcome). outcome.stored) does ∙ count-of-stores))
        (ap (λ (yes : Bool). round || yes) (ap (λ (outcome : Outcome). outcome.round) does ∙ stays) ∙ or-false round)
      where
        same : {m m' f f' : List ℕ} {c c' : ℕ} {r r' : Bool} → m ≡ m' → f ≡ f' → c ≡ c' → r ≡ r' → machine m f c r ≡ machine m' f' c' r'
        same one two three four = rw (one, two, three, four)

    -- a settled blit's words, made of the very file they are run on, and the run after them
    pub settled_words-run : (at : ℕ) (more : List ℕ) (stored : ℕ) (round : Bool) → goes_round file size ≡ false
        → run_from at (settled_words file size ++ more) (machine memory file stored round)
        ≡ run_from (after_settled at size) more (after (machine memory file stored round) (blit_step memory file size))
    unfolding settled_words after_settled
    settled_words-run at more stored round stays =
        let list : List Store = stores file size in
        let tail : List ℕ = pointer_words (final_d file size) ++ flag_words (all_zero list) in
        ap (λ (words : List ℕ). run_from at words (machine memory file stored round)) (append_assoc (stores_words list) tail more)
        ∙ run-of-stores list at (tail ++ more) memory file stored round stores-inside
        ∙ run-of-end (after_stores (length list) at) (final_d file size) (all_zero list) more (stored_into list memory) file (stored + length list) round
        ∙ ap (run_from (after_stores (length list) at + 1 + 1 + 1 + 1 + 1) more) (sym (after-blit stored round stays))
        ∙ ap (λ (many : ℕ). run_from (after_stores many at + 1 + 1 + 1 + 1 + 1) more (after (machine memory file stored round) (blit_step memory file size))) (stores-length file size)

-- its number is that of a blit that is done
pub blit_step-number : (memory file : List ℕ) (size : ℕ) → step_refusal (length memory) file size ≡ 0 → (blit_step memory file size).number ≡ 0
unfolding blit_step answered
blit_step-number memory file size lawful = rw lawful (done-number memory file size)
