-- Laws of a channel's moves: a row tells, or the rest does.
use Rattle.word.proofs.Base.{◌≡◌, refl, sym, ap, ap₂, ◌∙◌, ℕ, zero, suc, ◌+◌, ◌-◌, ◌<◌, ◌≤◌, sub-one, arith, Bool, true, false, ◌||◌, not}
use Rattle.word.proofs.Base.{List, ◌++◌, not-true, not-false}
use mathlib.Core.List.{append-nil}
use Rattle.word.specs.declared.types.Direction.{Direction}
use Rattle.word.specs.declared.types.Pointer.{Pointer}
use Rattle.word.specs.declared.types.Move.{Move}
use Rattle.word.specs.Pointer.{pointer_end, passed, next_row}
use Rattle.word.specs.Round.{passed_round, modulo_move}
use Rattle.word.proofs.ChoiceLaws.{and_none}
use Rattle.word.proofs.PointerLaws.{passed-lt, next_row-of-moves}
use Rattle.line.proofs.WalkLaws.{or-true}
use Rattle.round.specs.Between.{any_round, went_round}
use Rattle.round.specs.Channel.{row_moves, channel_moves, channel_round}
use Rattle.round.proofs.BetweenLaws.{flat, Some, went_round-of-append}
use Rattle.round.proofs.RowLaws.{went_round-of-row, any_round-of-row}

module _ (direction : Direction) (width modulo : ℕ) (some : 1 ≤ width) (narrow : width ≤ 64) where
  -- the moves at a row's end: its steps, and the modulo
  unfoldable pub end_round : Pointer → Bool
  end_round pointer = passed_round direction width pointer || passed_round direction modulo (passed direction width pointer)

  some-of-width : (wide : ℕ) → 1 ≤ wide → (rest : List (List Move)) (pointer : Pointer) → Some (row_moves direction modulo wide pointer ++ rest)
  unfolding row_moves
  some-of-width zero none rest pointer = absurd (omega arith)
  some-of-width (suc zero) one rest pointer = tt
  some-of-width (suc (suc more)) one rest pointer = tt

  some-of-rows : (remaining : ℕ) (pointer : Pointer) → Some (channel_moves direction width modulo (suc remaining) pointer)
  unfolding channel_moves
  some-of-rows remaining pointer = some-of-width width some _ pointer

  -- the last row
  pub went_round-of-last : (pointer : Pointer) → pointer.word < pointer_end
      → went_round (channel_moves direction width modulo 1 pointer) ≡ passed_round direction (width - 1) pointer
  unfolding channel_moves
  went_round-of-last pointer small = ap went_round (append-nil (row_moves direction modulo width pointer)) ∙ by_width width some narrow
    where
      by_width : (wide : ℕ) → 1 ≤ wide → wide ≤ 64 → went_round (row_moves direction modulo wide pointer) ≡ passed_round direction (wide - 1) pointer
      by_width zero none few = absurd (omega arith)
      by_width (suc more) one few = went_round-of-row direction modulo more pointer small (omega arith) ∙ ap (λ (by : ℕ). passed_round direction by pointer) (sym (sub-one (suc more)))

  -- a row that another follows
  pub went_round-of-rows : (remaining : ℕ) (pointer : Pointer) → pointer.word < pointer_end
      → went_round (channel_moves direction width modulo (suc (suc remaining)) pointer)
      ≡ (end_round pointer || went_round (channel_moves direction width modulo (suc remaining) (next_row direction width modulo pointer)))
  unfolding channel_moves end_round
  went_round-of-rows remaining pointer small =
      went_round-of-append (row_moves direction modulo width pointer) (channel_moves direction width modulo (suc remaining) (next_row direction width modulo pointer))
      (some-of-rows remaining (next_row direction width modulo pointer))
      ∙ ap (λ (here : Bool). here || went_round (channel_moves direction width modulo (suc remaining) (next_row direction width modulo pointer))) (by_width width some narrow)
    where
      by_width : (wide : ℕ) → 1 ≤ wide → wide ≤ 64
          → any_round (flat (row_moves direction modulo wide pointer)) ≡ (passed_round direction wide pointer || passed_round direction modulo (passed direction wide pointer))
      by_width zero none few = absurd (omega arith)
      by_width (suc more) one few = any_round-of-row direction modulo more pointer small (omega arith)

  -- a turn of the loop over the rows, counted from 1: a row's end tells, or the rest does
  module _ (rows index : ℕ) (here : Pointer) (small : here.word < pointer_end) (more : index < rows) (row gap : Move) (whole : Bool)
      (steps : row ≡ modulo_move direction width here) (passes : gap ≡ modulo_move direction modulo row.to)
      (same : went_round (channel_moves direction width modulo (rows + 1 - index) here) ≡ whole) where
    rest-follows : (end_round here || went_round (channel_moves direction width modulo (rows + 1 - (index + 1)) (next_row direction width modulo here))) ≡ whole
    rest-follows =
        let this : rows + 1 - index ≡ suc (suc (rows - (index + 1))) = omega arith in
        let next : rows + 1 - (index + 1) ≡ suc (rows - (index + 1)) = omega arith in
        rw next (sym (went_round-of-rows (rows - (index + 1)) here small) ∙ (rw this at same))

    abbrev later : Bool
    later = went_round (channel_moves direction width modulo (rows + 1 - (index + 1)) (next_row direction width modulo here))

    ends : (row.round || gap.round) ≡ end_round here
    unfolding end_round
    ends = rw (passes, steps)

    by_tests : (row_told gap-told : Bool) → row.round ≡ row_told → gap.round ≡ gap-told → ((row_told || gap-told) || later) ≡ whole
    by_tests row_told gap-told of_row of-gap =
        ap (λ (first : Bool). first || later) (sym (ap₂ ◌||◌ of_row of-gap) ∙ ends) ∙ rest-follows

    pub rows-when-steps : row.round ≡ true → true ≡ whole
    rows-when-steps told = by_tests true gap.round told refl

    pub rows-when-gap : gap.round ≡ true → true ≡ whole
    rows-when-gap told = ap (λ (first : Bool). first || later) (sym (or-true row.round)) ∙ by_tests row.round true refl told

    leads : (gap.to ≡ next_row direction width modulo here) × (gap.to.word < pointer_end)
    leads =
        next_row-of-moves direction width modulo here row.to gap.to small narrow (ap (λ (move : Move). move.to) steps)
        (ap (λ (move : Move). move.to) passes)

    pub rows-turn : row.round ≡ false → gap.round ≡ false
        → went_round (channel_moves direction width modulo (rows + 1 - (index + 1)) gap.to) ≡ whole
    rows-turn of_row of-gap = rw leads.0 (by_tests false false of_row of-gap)

  pub gap-lt : (from : Pointer) (gap : Move) → gap ≡ modulo_move direction modulo from → gap.to.word < pointer_end
  gap-lt from gap passes = rw passes (passed-lt direction modulo from)

  pub rows-done : (rows index : ℕ) (here : Pointer) (last : Move) (whole : Bool) → here.word < pointer_end → index ≤ rows → rows ≤ index
      → last ≡ modulo_move direction (width - 1) here → went_round (channel_moves direction width modulo (rows + 1 - index) here) ≡ whole → last.round ≡ whole
  rows-done rows index here last whole small few end steps same =
      let only : rows + 1 - index ≡ 1 = omega arith in
      rw steps (sym (went_round-of-last here small) ∙ (rw only at same))

module _ (direction : Direction) (used : Bool) (width modulo rows : ℕ) (pointer : Pointer) where
  pub channel_round-when-unused : not used ≡ true → channel_round direction used width modulo rows pointer ≡ false
  unfolding channel_round
  channel_round-when-unused idle = rw (not-true used idle)

  pub channel_round-when-used : (told : Bool) → not used ≡ false → told ≡ went_round (channel_moves direction width modulo rows pointer)
      → told ≡ channel_round direction used width modulo rows pointer
  unfolding channel_round
  channel_round-when-used told uses same = rw (not-false used uses) same

  pub channel_round-when-clear : went_round (channel_moves direction width modulo rows pointer) ≡ false
      → channel_round direction used width modulo rows pointer ≡ false
  unfolding channel_round
  channel_round-when-clear stays = rw stays (and_none used)
