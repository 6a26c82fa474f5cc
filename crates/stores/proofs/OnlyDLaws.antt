-- Laws of a blit that uses D alone: it fetches nothing, so that memory has no part in its words and its flow.
use Rattle.word.proofs.Base.{◌≡◌, refl, sym, ap, ap₂, ◌∙◌, ℕ, zero, suc, ◌+◌, Bool, true, false, eqb, List, []}
use Rattle.word.specs.declared.types.Pointer.{Pointer}
use Rattle.word.specs.Repeat.{repeated}
use Rattle.word.specs.Types.{Uses}
use Rattle.area.specs.declared.types.Setup.{Setup}
use Rattle.area.specs.Types.{Sources}
use Rattle.area.specs.declared.types.Flow.{Flow}
use Rattle.area.specs.declared.types.Finished.{Finished}
use Rattle.area.specs.Flow.{State, state, nothing}
use Rattle.area.specs.With.{with_sources, with_carry, with_stores}
use Rattle.area.specs.Fetch.{fetched, fetch}
use Rattle.area.specs.Finish.{finish}
use Rattle.area.specs.Store.{wait, count_with, store_pending}
use Rattle.area.specs.Move.{move_on, row_end}
use Rattle.area.specs.Rows.{finished_word, stored_before, one_word, words, row_start, one_row, rows}
use Rattle.area.proofs.StoreLaws.{memory_with-of-empty}

pub record OnlyD (uses : Uses) : Type 0 where
  pub a : uses.a ≡ false
  pub b : uses.b ≡ false
  pub c : uses.c ≡ false
  pub d : uses.d ≡ true

fetched-of-unused : (used : Bool) (memory : List ℕ) (pointer : Pointer) (source : ℕ) → used ≡ false → fetched used memory pointer source ≡ source
unfolding fetched
fetched-of-unused used memory pointer source idle = rw idle

pub fetch-of-none : (uses : Uses) (memory : List ℕ) (flow : Flow) → OnlyD uses → fetch uses memory flow ≡ flow
unfolding fetch
fetch-of-none uses memory flow only =
    ap (λ (sources : Sources). with_sources sources flow)
    (same (fetched-of-unused uses.a memory flow.pointers.a flow.sources.a only.a)
    (fetched-of-unused uses.b memory flow.pointers.b flow.sources.b only.b)
    (fetched-of-unused uses.c memory flow.pointers.c flow.sources.c only.c))
  where
    same : {a a' b b' c c' : ℕ} → a ≡ a' → b ≡ b' → c ≡ c'
        → ◌≡◌ {A = Sources} (record { a = a; b = b; c = c }) (record { a = a'; b = b'; c = c' })
    same this that other = rw (this, that, other)

module _ (setup : Setup) (only : OnlyD setup.uses) where
  -- a word, without memory
  pub finished_word-without-memory : (width remaining : ℕ) (memory : List ℕ) (flow : Flow)
      → finished_word setup width remaining (state memory flow) ≡ finish setup (eqb (remaining + 1) width) (eqb remaining 0) flow
  unfolding finished_word
  finished_word-without-memory width remaining memory flow =
      ap (finish setup (eqb (remaining + 1) width) (eqb remaining 0)) (fetch-of-none setup.uses memory flow only)

  pub one_word-flow : (width remaining : ℕ) (memory other : List ℕ) (flow : Flow)
      → (one_word setup width remaining (state memory flow)).flow ≡ (one_word setup width remaining (state other flow)).flow
  unfolding one_word stored_before store_pending
  one_word-flow width remaining memory other flow =
      ap (λ (made : Finished).
      move_on setup.direction setup.uses
      (wait setup.uses.d made.word (with_stores (count_with made.flow.pending made.flow.stored) nothing made.flow)))
      (finished_word-without-memory width remaining memory flow ∙ sym (finished_word-without-memory width remaining other flow))

  pub one_word-of-empty : (width remaining : ℕ) (memory : List ℕ) (flow : Flow)
      → one_word setup width remaining (state [] flow) ≡ state [] (one_word setup width remaining (state memory flow)).flow
  unfolding one_word stored_before store_pending finished_word finish fetch
  one_word-of-empty width remaining memory flow =
      ap₂ state (memory_with-of-empty flow.pending) (one_word-flow width remaining [] memory flow)

  -- a row's words and a row, without memory
  pub words-of-empty : (width remaining : ℕ) (memory : List ℕ) (flow : Flow)
      → words setup width remaining (state [] flow) ≡ state [] (words setup width remaining (state memory flow)).flow
  unfolding repeated
  words-of-empty width zero memory flow = refl
  words-of-empty width (suc remaining) memory flow =
      ap (words setup width remaining) (one_word-of-empty width remaining memory flow)
      ∙ words-of-empty width remaining (one_word setup width remaining (state memory flow)).memory (one_word setup width remaining (state memory flow)).flow

  pub one_row-of-empty : (width : ℕ) (memory : List ℕ) (flow : Flow)
      → one_row setup width (state [] flow) ≡ state [] (one_row setup width (state memory flow)).flow
  unfolding one_row row_start
  one_row-of-empty width memory flow =
      let same = words-of-empty width width memory (with_carry setup.carry flow) in
      ap₂ state (ap (λ (end : State). end.memory) same)
      (ap (λ (end : State). row_end setup.direction setup.uses setup.modulos end.flow) same)

  pub rows-of-empty : (width remaining : ℕ) (memory : List ℕ) (flow : Flow)
      → rows setup width remaining (state [] flow) ≡ state [] (rows setup width remaining (state memory flow)).flow
  unfolding repeated
  rows-of-empty width zero memory flow = refl
  rows-of-empty width (suc remaining) memory flow =
      ap (rows setup width remaining) (one_row-of-empty width memory flow)
      ∙ rows-of-empty width remaining (one_row setup width (state memory flow)).memory (one_row setup width (state memory flow)).flow
