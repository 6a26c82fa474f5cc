-- A blit changes no word that D doesn't touch: each word is for D's pointer, which goes where the list of touched words goes.
use Rattle.word.proofs.Base.{◌≡◌, refl, sym, ap, ◌∙◌, ℕ, zero, suc, Bool, true, false, ◌||◌, eqb, eqb-false, List, []}
use Rattle.word.proofs.Base.{◌∷◌, ◌++◌, length, get_or, get_or-set_other}
use mathlib.Core.Bool.{or_assoc}
use Rattle.word.specs.declared.types.Pointer.{Pointer}
use Rattle.word.specs.Repeat.{repeated}
use Rattle.word.specs.Pointer.{moved, next_row}
use Rattle.word.specs.Size.{height, width}
use Rattle.word.proofs.ChoiceLaws.{or_left, or_right}
use Rattle.area.specs.declared.types.Setup.{Setup}
use Rattle.area.specs.Setup.{setup}
use Rattle.area.specs.Flow.{State, state, start}
use Rattle.area.specs.Store.{memory_with, store_pending}
use Rattle.area.specs.Move.{row_end}
use Rattle.area.specs.Rows.{finished_word, one_word, words, row_start, one_row, rows, area_blit}
use Rattle.area.proofs.ChannelLaws.{one_word-stores, one_word-moves-d, one_row-moves-d, rows-without-d}
use Rattle.line.specs.declared.types.Line.{Line}
use Rattle.line.specs.declared.types.Dot.{Dot}
use Rattle.line.specs.Setup.{line_setup}
use Rattle.line.specs.Dot.{first_dot}
use Rattle.line.specs.Line as lines
use Rattle.line.specs.Line.{next, spots, word_here, one_dot, begun, line_blit}
use Rattle.line.proofs.LineLaws.{one_dot-goes-on}
use Rattle.line.proofs.DotsLaws.{one_dot-memory}
use Rattle.refusal.specs.Touch.{row_touches, touches, line_touches, among}
use Rattle.refusal.proofs.RefusalLaws.{step_refusal-of-line, refusal-of-none}
use Rattle.refusal.specs.Refusal.{refusal}
use Rattle.blit.specs.Blit.{Outcome, finished, drawn, area_done, line_done, refused, blit}
use Rattle.blit.proofs.BlitLaws.{not-both, answered-cases}
use Rattle.blit.specs.OnlyDChanges.{OnlyDChanges, WithoutDNothingChanges}

pub among-of-append : (word : ℕ) (first rest : List ℕ) → among word (first ++ rest) ≡ (among word first || among word rest)
unfolding among
among-of-append word [] rest = refl
among-of-append word (touched ∷ first) rest =
    ap (λ (later : Bool). eqb touched word || later) (among-of-append word first rest)
    ∙ sym (or_assoc (eqb touched word) (among word first) (among word rest))

module _ (setup : Setup) (uses : setup.uses.d ≡ true) (width word : ℕ) where
  words-change-no-other : (remaining : ℕ) (now : State) → among word (row_touches setup.direction remaining now.flow.pointers.d) ≡ false
      → get_or (store_pending (words setup width remaining now)).memory word 0 ≡ get_or (store_pending now).memory word 0
  unfolding repeated row_touches among
  words-change-no-other zero now apart = refl
  words-change-no-other (suc remaining) now apart =
      let next : State = one_word setup width remaining now in
      let at : Pointer = now.flow.pointers.d in
      let rest : Bool = among word (row_touches setup.direction remaining (moved setup.direction at)) in
      let here : eqb at.word word ≡ false = or_left (eqb at.word word) rest apart in
      let later : among word (row_touches setup.direction remaining next.flow.pointers.d) ≡ false =
      ap (λ (at : Pointer). among word (row_touches setup.direction remaining at)) (one_word-moves-d setup width remaining now uses)
      ∙ or_right (eqb at.word word) rest apart in
      words-change-no-other remaining next later
      ∙ ap (λ (memory : List ℕ). get_or memory word 0) (one_word-stores setup width remaining now uses)
      ∙ get_or-set_other (store_pending now).memory at.word word (finished_word setup width remaining now).word 0
      (λ same. eqb-false at.word word here (sym same))

  row-changes-no-other : (now : State) → among word (row_touches setup.direction width now.flow.pointers.d) ≡ false
      → get_or (store_pending (one_row setup width now)).memory word 0 ≡ get_or (store_pending now).memory word 0
  unfolding one_row row_start row_end store_pending
  row-changes-no-other now apart = words-change-no-other width (row_start setup now) apart

  rows-change-no-other : (remaining : ℕ) (now : State)
      → among word (touches setup.direction width setup.modulos.d remaining now.flow.pointers.d) ≡ false
      → get_or (store_pending (rows setup width remaining now)).memory word 0 ≡ get_or (store_pending now).memory word 0
  unfolding repeated touches next_row
  rows-change-no-other zero now apart = refl
  rows-change-no-other (suc remaining) now apart =
      let next : State = one_row setup width now in
      let row : List ℕ = row_touches setup.direction width now.flow.pointers.d in
      let rest : List ℕ = touches setup.direction width setup.modulos.d remaining (next_row setup.direction width setup.modulos.d now.flow.pointers.d) in
      let parts : (among word row || among word rest) ≡ false = sym (among-of-append word row rest) ∙ apart in
      let later : among word (touches setup.direction width setup.modulos.d remaining next.flow.pointers.d) ≡ false =
      ap (λ (at : Pointer). among word (touches setup.direction width setup.modulos.d remaining at)) (one_row-moves-d setup width now uses)
      ∙ or_right (among word row) (among word rest) parts in
      rows-change-no-other remaining next later ∙ row-changes-no-other now (or_left (among word row) (among word rest) parts)

-- D used or not
rows-change-no-word : (setup : Setup) (width word remaining : ℕ) (now : State) (used : Bool) → setup.uses.d ≡ used
    → among word (touches setup.direction width setup.modulos.d remaining now.flow.pointers.d) ≡ false
    → get_or (store_pending (rows setup width remaining now)).memory word 0 ≡ get_or (store_pending now).memory word 0
rows-change-no-word setup width word remaining now true uses apart = rows-change-no-other setup uses width word remaining now apart
rows-change-no-word setup width word remaining now false idle apart =
    ap (λ (memory : List ℕ). get_or memory word 0) (rows-without-d setup width remaining now idle)

-- a line stores only where a dot stands
dots-change-no-other : (line : Line) (word dots : ℕ) (now : lines.State) → among word (line_touches line dots now.drawn.dot) ≡ false
    → get_or (line_blit line dots now).memory word 0 ≡ get_or now.memory word 0
unfolding line_blit repeated spots among
dots-change-no-other line word zero now apart = refl
dots-change-no-other line word (suc dots) now apart =
    let at : ℕ = now.drawn.dot.spot.at.word in
    let rest : Bool = among word (line_touches line dots (next line now.drawn.dot)) in
    let here : eqb at word ≡ false = or_left (eqb at word) rest apart in
    let later : among word (line_touches line dots (one_dot line now).drawn.dot) ≡ false =
    ap (λ (dot : Dot). among word (line_touches line dots dot)) (one_dot-goes-on line now) ∙ or_right (eqb at word) rest apart in
    dots-change-no-other line word dots (one_dot line now) later
    ∙ one_dot-memory (λ (memory : List ℕ). get_or memory word 0 ≡ get_or now.memory word 0) line now
    (get_or-set_other now.memory at word (word_here line now) 0 (λ same. eqb-false at word here (sym same))) refl

pub only-d-changes : OnlyDChanges
unfolding blit area_done line_done refused finished drawn area_blit store_pending memory_with start
only-d-changes memory file size word apart =
    answered-cases (λ (end : Outcome). get_or end.memory word 0 ≡ get_or memory word 0) (refusal (length memory) file size) memory file size
    (λ lawful lined. dots-change-no-other (line_setup file) word (height size) (lines.state memory (begun (first_dot file))) (rw lined at apart))
    (λ lawful area.
    rows-change-no-word (setup file) (width size) word (height size) (state memory (start file)) (setup file).uses.d refl (rw area at apart))
    refl

pub without-d-nothing-changes : WithoutDNothingChanges
unfolding blit area_done line_done refused finished area_blit store_pending memory_with start setup
without-d-nothing-changes memory file size idle =
    answered-cases (λ (end : Outcome). end.memory ≡ memory) (refusal (length memory) file size) memory file size
    (λ lawful lined. absurd (not-both (step_refusal-of-line (length memory) file size lined (refusal-of-none (length memory) file size lawful)).d idle))
    (λ lawful area. rows-without-d (setup file) (width size) (height size) (state memory (start file)) idle) refl
