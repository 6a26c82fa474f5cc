-- Laws of a channel that keeps clear of the ends: where the first and the last row do, so do all moves between.
use Rattle.word.proofs.Base.{◌≡◌, refl, sym, ap, ap₂, ◌∙◌, ℕ, zero, suc, ◌+◌, ◌-◌, ◌*◌, ◌%◌, ◌<◌, ◌≤◌, sub-one, mod-eq_of_lt, arith, true, false, ◌&&◌, ◌||◌}
use Rattle.word.proofs.Base.{leb, ltb, lt-leb, le-leb, le-ltb, ltb-true, leb-true}
use Rattle.word.specs.declared.types.Direction.{Direction}
use Rattle.word.specs.declared.types.Direction.TheVariants.{Ascending, Descending}
use Rattle.word.specs.declared.types.Pointer.{Pointer}
use Rattle.word.specs.Pointer.{pointer_end, downward, passed, next_row}
use Rattle.word.specs.Round.{plus_round, passed_round}
use Rattle.word.proofs.ChoiceLaws.{and_left, and_right}
use Rattle.word.proofs.PointerLaws.{passed-lt, next_row-lt, next_row-of-moves}
use Rattle.round.specs.Between.{went_round}
use Rattle.round.specs.Channel.{channel_moves}
use Rattle.round.specs.Inner.Onward.{onward}
use Rattle.round.proofs.FewLaws.{passed_round-onward, onward-of-passed}
use Rattle.round.proofs.ChannelLaws.{end_round, went_round-of-last, went_round-of-rows}

-- by the direction
module _ (direction : Direction) (pointer : Pointer) where
  pub onward-when-ascending : direction ≡ Ascending → pointer.word ≡ onward direction pointer
  unfolding onward
  onward-when-ascending way = rw way

  pub onward-when-descending : direction ≡ Descending → pointer_end - 1 - pointer.word ≡ onward direction pointer
  unfolding onward
  onward-when-descending way = rw way

-- what a sum tells, where the words stand for a number from 0 on, and where they stand for one below 0
plus_round-of-few : (words at : ℕ) → words % pointer_end < downward → at + words % pointer_end < pointer_end → plus_round words (record { word = at }) ≡ false
unfolding plus_round
plus_round-of-few words at few inside =
    rw (lt-leb downward (words % pointer_end) few, lt-leb pointer_end (at + words % pointer_end) inside)

plus_round-of-back : (words at : ℕ) → downward ≤ words % pointer_end → pointer_end - words % pointer_end ≤ at → plus_round words (record { word = at }) ≡ false
unfolding plus_round
plus_round-of-back words at below inside =
    rw (le-leb downward (words % pointer_end) below, le-ltb at (pointer_end - words % pointer_end) inside)

-- rows that stay clear: each but the last with a word behind it, and the gap to the next one too; `more` rows follow
module _ (direction : Direction) (width modulo : ℕ) (some : 1 ≤ width) (narrow : width ≤ 64) (Clear : (more at : ℕ) → Type 0)
    (last : (at : ℕ) → Clear 0 at → at + width ≤ pointer_end)
    (room : (more at : ℕ) → Clear (suc more) at → at + width < pointer_end)
    (turn : (more at : ℕ) → Clear (suc more) at
    → (plus_round modulo (record { word = at + width }) ≡ false) × Clear more ((at + width + modulo % pointer_end) % pointer_end)) where
  steps-inside : (words : ℕ) (pointer : Pointer) → pointer.word < pointer_end → words < downward → onward direction pointer + words < pointer_end
      → passed_round direction words pointer ≡ false
  steps-inside words pointer small few inside =
      let whole : words % pointer_end ≡ words = mod-eq_of_lt (omega arith) in
      passed_round-onward direction words pointer small
      ∙ plus_round-of-few words (onward direction pointer) (omega (arith, whole)) (omega (arith, whole))

  onward-of-row : (pointer : Pointer) → pointer.word < pointer_end → onward direction pointer + width < pointer_end
      → onward direction (passed direction width pointer) ≡ onward direction pointer + width
  onward-of-row pointer small inside =
      onward-of-passed direction width pointer small ∙ omega arith

  pub stays-clear : (more : ℕ) (pointer : Pointer) → pointer.word < pointer_end → Clear more (onward direction pointer)
      → went_round (channel_moves direction width modulo (suc more) pointer) ≡ false
  unfolding end_round
  stays-clear zero pointer small clear =
      let inside = last (onward direction pointer) clear in
      went_round-of-last direction width modulo some narrow pointer small
      ∙ steps-inside (width - 1) pointer small (omega arith) (omega arith)
  stays-clear (suc more) pointer small clear =
      let inside = room more (onward direction pointer) clear in
      let end : Pointer = passed direction width pointer in
      let row = onward-of-row pointer small inside in
      let next = next_row-of-moves direction width modulo pointer end (passed direction modulo end) small narrow refl refl in
      let gap : passed_round direction modulo end ≡ false =
      passed_round-onward direction modulo end (passed-lt direction width pointer)
      ∙ ap (λ (at : ℕ). plus_round modulo (record { word = at })) row
      ∙ (turn more (onward direction pointer) clear).0 in
      let on : onward direction (next_row direction width modulo pointer) ≡ (onward direction pointer + width + modulo % pointer_end) % pointer_end =
      ap (onward direction) (sym next.0)
      ∙ onward-of-passed direction modulo end (passed-lt direction width pointer)
      ∙ ap (λ (at : ℕ). (at + modulo % pointer_end) % pointer_end) row in
      went_round-of-rows direction width modulo some narrow more pointer small
      ∙ ap₂ ◌||◌ (ap₂ ◌||◌ (steps-inside width pointer small (omega arith) inside) gap)
      (stays-clear more (next_row direction width modulo pointer) (next_row-lt direction width modulo pointer)
      (rw on (turn more (onward direction pointer) clear).1))

-- the rows after the first: so many words on from row to row, or so many back
module _ (direction : Direction) (width modulo rows : ℕ) (pointer : Pointer) (some : 1 ≤ width) (narrow : width ≤ 64) (row : 1 ≤ rows)
    (small : pointer.word < pointer_end) (stride from far : ℕ) (of-from : from ≡ onward direction pointer) (apart : far ≡ (rows - 1) * stride) where
  by_rows : ((more : ℕ) → far ≡ more * stride → went_round (channel_moves direction width modulo (suc more) pointer) ≡ false)
      → went_round (channel_moves direction width modulo rows pointer) ≡ false
  by_rows each = by_count rows row refl
    where
      by_count : (many : ℕ) → 1 ≤ many → rows ≡ many → went_round (channel_moves direction width modulo rows pointer) ≡ false
      by_count zero none same = absurd (omega arith)
      by_count (suc more) one same =
          rw same (each more (apart ∙ ap (λ (many : ℕ). (many - 1) * stride) same ∙ ap (λ (many : ℕ). many * stride) (sub-one (suc more))))

  abbrev Upward : (more at : ℕ) → Type 0
  Upward more at = at + more * stride + width ≤ pointer_end

  clear-upward : 1 ≤ stride → ((at : ℕ) → at + stride < pointer_end
      → (plus_round modulo (record { word = at + width }) ≡ false) × ((at + width + modulo % pointer_end) % pointer_end ≡ at + stride))
      → leb (from + far + width) pointer_end ≡ true → went_round (channel_moves direction width modulo rows pointer) ≡ false
  clear-upward on-and-on lands told =
      by_rows (λ more many.
      stays-clear direction width modulo some narrow Upward
      (λ at inside. omega arith)
      (λ more at inside. omega arith)
      (λ more at inside.
      let on = lands at (omega arith) in
      (on.0, rw on.1 (omega arith)))
      more pointer small (let end = leb-true (from + far + width) pointer_end told in omega arith))

  abbrev Downward : (more at : ℕ) → Type 0
  Downward more at = (more * stride ≤ at) × (at + width < pointer_end)

  clear-downward : ((at : ℕ) → stride ≤ at → at + width < pointer_end
      → (plus_round modulo (record { word = at + width }) ≡ false) × ((at + width + modulo % pointer_end) % pointer_end ≡ at - stride))
      → (leb far from && ltb (from + width) pointer_end) ≡ true → went_round (channel_moves direction width modulo rows pointer) ≡ false
  clear-downward lands told =
      let start = leb-true far from (and_left (leb far from) (ltb (from + width) pointer_end) told) in
      let end = ltb-true (from + width) pointer_end (and_right (leb far from) (ltb (from + width) pointer_end) told) in
      by_rows (λ more many.
      stays-clear direction width modulo some narrow Downward
      (λ at inside. omega (arith, inside.1))
      (λ more at inside. inside.1)
      (λ more at inside.
      let room = inside.0 in
      let on = lands at (omega arith) inside.1 in
      (on.0, rw on.1 (omega arith, omega (arith, inside.1))))
      more pointer small (omega arith, omega arith))

-- by what the quick look tests: a gap from 0 on, one below 0 that the width makes up for, and one that leads back
module _ (direction : Direction) (width modulo rows : ℕ) (pointer : Pointer) (some : 1 ≤ width) (narrow : width ≤ 64) (row : 1 ≤ rows)
    (small : pointer.word < pointer_end) (from gap far : ℕ) (of-from : from ≡ onward direction pointer) (of-gap : gap ≡ modulo % pointer_end) where
  pub clear-by-gap : gap < downward → far ≡ (rows - 1) * (width + gap) → leb (from + far + width) pointer_end ≡ true
      → went_round (channel_moves direction width modulo rows pointer) ≡ false
  clear-by-gap above apart told =
      clear-upward direction width modulo rows pointer some narrow row small (width + gap) from far of-from apart (omega arith)
      (λ at inside. (plus_round-of-few modulo (at + width) (omega arith) (omega arith), omega arith)) told

  pub clear-by-width : downward ≤ gap → pointer_end - gap < width → far ≡ (rows - 1) * (width - (pointer_end - gap))
      → leb (from + far + width) pointer_end ≡ true → went_round (channel_moves direction width modulo rows pointer) ≡ false
  clear-by-width below short apart told =
      clear-upward direction width modulo rows pointer some narrow row small (width - (pointer_end - gap)) from far of-from apart (omega arith)
      (λ at inside. (plus_round-of-back modulo (at + width) (omega arith) (omega arith), omega arith)) told

  pub clear-by-back : downward ≤ gap → width ≤ pointer_end - gap → far ≡ (rows - 1) * (pointer_end - gap - width)
      → (leb far from && ltb (from + width) pointer_end) ≡ true → went_round (channel_moves direction width modulo rows pointer) ≡ false
  clear-by-back below long apart told =
      clear-downward direction width modulo rows pointer some narrow row small (pointer_end - gap - width) from far of-from apart
      (λ at over inside. (plus_round-of-back modulo (at + width) (omega arith) (omega arith), omega arith)) told
