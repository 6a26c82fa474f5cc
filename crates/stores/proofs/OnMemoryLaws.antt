-- A blit that uses D alone is its stores: on any memory they are the same, each lies inside where the blit is lawful, and memory
-- after the blit is memory with each of them set in turn.
use Rattle.word.proofs.Base.{◌≡◌, refl, sym, ap, ◌∙◌, ℕ, zero, suc, ◌<◌, Bool, false, ◌||◌, leb, leb-false, List}
use Rattle.word.proofs.Base.{[], ◌∷◌, ◌++◌, set}
use Rattle.word.specs.declared.types.Pointer.{Pointer}
use Rattle.word.specs.Repeat.{repeated}
use Rattle.word.specs.Pointer.{pointer_end, moved, next_row}
use Rattle.word.proofs.ChoiceLaws.{or_left, or_right}
use Rattle.word.proofs.PointerLaws.{moved-lt, next_row-lt}
use Rattle.area.specs.declared.types.Setup.{Setup}
use Rattle.area.specs.declared.types.Flow.{Flow}
use Rattle.area.specs.declared.types.Finished.{Finished}
use Rattle.area.specs.Flow.{State, state}
use Rattle.area.specs.With.{with_carry}
use Rattle.area.specs.Store.{store_pending}
use Rattle.area.specs.Move.{row_end}
use Rattle.area.specs.Rows.{finished_word, one_word, words, row_start, one_row, rows}
use Rattle.area.proofs.ChannelLaws.{one_word-stores, one_word-moves-d, one_row-moves-d}
use Rattle.refusal.specs.Touch.{row_touches, touches, leaves}
use Rattle.refusal.proofs.TouchLaws.{leaves-of-append}
use Rattle.stores.specs.Stores.{Store, store, row_stores, blit_stores}
use Rattle.stores.proofs.OnlyDLaws.{OnlyD, finished_word-without-memory, one_word-of-empty, one_row-of-empty}

-- memory with stores, one after the other
unfoldable pub stored_into : List Store → (memory : List ℕ) → List ℕ
stored_into [] memory = memory
stored_into (one ∷ rest) memory = stored_into rest (set memory one.to.word one.value)

stored_into-of-append : (these others : List Store) (memory : List ℕ)
    → stored_into (these ++ others) memory ≡ stored_into others (stored_into these memory)
unfolding stored_into
stored_into-of-append [] others memory = refl
stored_into-of-append (one ∷ these) others memory = stored_into-of-append these others (set memory one.to.word one.value)

-- each lies inside memory of n words
unfoldable pub Inside : (n : ℕ) → List Store → Type 0
Inside n [] = Unit
Inside n (one ∷ rest) = (one.to.word < pointer_end) × (one.to.word < n) × Inside n rest

Inside-of-append : (n : ℕ) (these others : List Store) → Inside n these → Inside n others → Inside n (these ++ others)
unfolding Inside
Inside-of-append n [] others first second = second
Inside-of-append n (one ∷ these) others first second = (first.0, first.1, Inside-of-append n these others first.2 second)

module _ (setup : Setup) (only : OnlyD setup.uses) (width : ℕ) where
  -- the word that is stored doesn't go by memory
  word-on-memory : (remaining : ℕ) (memory : List ℕ) (flow : Flow)
      → (finished_word setup width remaining (state memory flow)).word ≡ (finished_word setup width remaining (state [] flow)).word
  word-on-memory remaining memory flow =
      ap (λ (made : Finished). made.word)
      (finished_word-without-memory setup only width remaining memory flow ∙ sym (finished_word-without-memory setup only width remaining [] flow))

  -- a row, and all rows, on memory
  words-store : (remaining : ℕ) (memory : List ℕ) (flow : Flow)
      → (store_pending (words setup width remaining (state memory flow))).memory
      ≡ stored_into (row_stores setup width remaining (state [] flow)) (store_pending (state memory flow)).memory
  unfolding repeated row_stores stored_into
  words-store zero memory flow = refl
  words-store (suc remaining) memory flow =
      let next : State = one_word setup width remaining (state memory flow) in
      let before : List ℕ = (store_pending (state memory flow)).memory in
      words-store remaining next.memory next.flow
      ∙ ap (λ (begin : State). stored_into (row_stores setup width remaining begin) (store_pending next).memory)
      (sym (one_word-of-empty setup only width remaining memory flow))
      ∙ ap (stored_into (row_stores setup width remaining (one_word setup width remaining (state [] flow))))
      (one_word-stores setup width remaining (state memory flow) only.d
      ∙ ap (set before flow.pointers.d.word) (word-on-memory remaining memory flow))

  pub rows-store : (remaining : ℕ) (memory : List ℕ) (flow : Flow)
      → (store_pending (rows setup width remaining (state memory flow))).memory
      ≡ stored_into (blit_stores setup width remaining (state [] flow)) (store_pending (state memory flow)).memory
  unfolding repeated blit_stores stored_into row_start one_row row_end store_pending
  rows-store zero memory flow = refl
  rows-store (suc remaining) memory flow =
      let next : State = one_row setup width (state memory flow) in
      let row : List Store = row_stores setup width width (state [] (with_carry setup.carry flow)) in
      let rest : List Store = blit_stores setup width remaining (one_row setup width (state [] flow)) in
      rows-store remaining next.memory next.flow
      ∙ ap (λ (begin : State). stored_into (blit_stores setup width remaining begin) (store_pending next).memory)
      (sym (one_row-of-empty setup only width memory flow))
      ∙ ap (stored_into rest) (words-store width memory (with_carry setup.carry flow))
      ∙ sym (stored_into-of-append row rest (store_pending (state memory flow)).memory)

  -- the stores don't go by memory
  row_stores-on-memory : (remaining : ℕ) (memory : List ℕ) (flow : Flow)
      → row_stores setup width remaining (state memory flow) ≡ row_stores setup width remaining (state [] flow)
  unfolding row_stores
  row_stores-on-memory zero memory flow = refl
  row_stores-on-memory (suc remaining) memory flow =
      let next : State = one_word setup width remaining (state memory flow) in
      ap (λ (word : ℕ). store flow.pointers.d word ∷ row_stores setup width remaining next) (word-on-memory remaining memory flow)
      ∙ ap (λ (rest : List Store). store flow.pointers.d (finished_word setup width remaining (state [] flow)).word ∷ rest)
      (row_stores-on-memory remaining next.memory next.flow
      ∙ ap (row_stores setup width remaining) (sym (one_word-of-empty setup only width remaining memory flow)))

  pub blit_stores-on-memory : (remaining : ℕ) (memory : List ℕ) (flow : Flow)
      → blit_stores setup width remaining (state memory flow) ≡ blit_stores setup width remaining (state [] flow)
  unfolding blit_stores row_start
  blit_stores-on-memory zero memory flow = refl
  blit_stores-on-memory (suc remaining) memory flow =
      let next : State = one_row setup width (state memory flow) in
      ap (λ (row : List Store). row ++ blit_stores setup width remaining next) (row_stores-on-memory width memory (with_carry setup.carry flow))
      ∙ ap (λ (rest : List Store). row_stores setup width width (state [] (with_carry setup.carry flow)) ++ rest)
      (blit_stores-on-memory remaining next.memory next.flow
      ∙ ap (blit_stores setup width remaining) (sym (one_row-of-empty setup only width memory flow)))

  -- they lie inside where D's words do
  row_stores-inside : (n remaining : ℕ) (now : State) → now.flow.pointers.d.word < pointer_end
      → leaves n (row_touches setup.direction remaining now.flow.pointers.d) ≡ false
      → Inside n (row_stores setup width remaining now)
  unfolding row_stores Inside leaves row_touches
  row_stores-inside n zero now small stays = tt
  row_stores-inside n (suc remaining) now small stays =
      let d : Pointer = now.flow.pointers.d in
      let rest : Bool = leaves n (row_touches setup.direction remaining (moved setup.direction d)) in
      let moves : (one_word setup width remaining now).flow.pointers.d ≡ moved setup.direction d = one_word-moves-d setup width remaining now only.d in (
        small,
        leb-false n d.word (or_left (leb n d.word) rest stays),
        row_stores-inside n remaining (one_word setup width remaining now) (rw moves (moved-lt setup.direction d))
            (rw moves (or_right (leb n d.word) rest stays)),
      )

  pub blit_stores-inside : (n remaining : ℕ) (now : State) → now.flow.pointers.d.word < pointer_end
      → leaves n (touches setup.direction width setup.modulos.d remaining now.flow.pointers.d) ≡ false
      → Inside n (blit_stores setup width remaining now)
  unfolding blit_stores Inside touches row_start next_row
  blit_stores-inside n zero now small stays = tt
  blit_stores-inside n (suc remaining) now small stays =
      let d : Pointer = now.flow.pointers.d in
      let row : List ℕ = row_touches setup.direction width d in
      let rest : List ℕ = touches setup.direction width setup.modulos.d remaining (next_row setup.direction width setup.modulos.d d) in
      let parts : (leaves n row || leaves n rest) ≡ false = sym (leaves-of-append n row rest) ∙ stays in
      let moves : (one_row setup width now).flow.pointers.d ≡ next_row setup.direction width setup.modulos.d d = one_row-moves-d setup width now only.d in
      Inside-of-append n (row_stores setup width width (row_start setup now)) (blit_stores setup width remaining (one_row setup width now))
      (row_stores-inside n width (row_start setup now) small (or_left (leaves n row) (leaves n rest) parts))
      (blit_stores-inside n remaining (one_row setup width now) (rw moves (next_row-lt setup.direction width setup.modulos.d d))
      (rw moves (or_right (leaves n row) (leaves n rest) parts)))
