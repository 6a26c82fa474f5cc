-- Laws of the moves after a dot.
use Rattle.word.proofs.Base.{ℕ, ◌<◌, arith, Bool, true, false, eqb}
use Rattle.word.specs.declared.types.Pointer.{Pointer}
use Rattle.word.specs.Pointer.{pointer_end, up, down}
use Rattle.word.proofs.ChoiceLaws.{if-either}
use Rattle.line.specs.declared.types.Line.{Line}
use Rattle.line.specs.declared.types.Spot.{Spot}
use Rattle.line.specs.Move.{vertical, right, left, horizontal, sometimes, always, moved_spot}

-- what holds of a spot after any move of one that has it holds after the moves of a dot
module _ (Holds : Spot → Type 0)
    (again : (row : ℕ) (upward : Bool) (from : Spot) → Holds from → Holds (vertical row upward from))
    (along : (leftward : Bool) (from : Spot) → Holds from → Holds (horizontal leftward from)) where
  sometimes-holds : (line : Line) (from : Spot) → Holds from → Holds (sometimes line from)
  unfolding sometimes
  sometimes-holds line from holds =
      if-either Holds line.octant.sud (vertical line.row line.octant.sul from) (horizontal line.octant.sul from)
      (again line.row line.octant.sul from holds) (along line.octant.sul from holds)

  always-holds : (line : Line) (from : Spot) → Holds from → Holds (always line from)
  unfolding always
  always-holds line from holds =
      if-either Holds line.octant.sud (horizontal line.octant.aul from) (vertical line.row line.octant.aul from)
      (along line.octant.aul from holds) (again line.row line.octant.aul from holds)

  moved_spot-holds : (line : Line) (sign : Bool) (from : Spot) → Holds from → Holds (moved_spot line sign from)
  unfolding moved_spot
  moved_spot-holds line true from holds = always-holds line from holds
  moved_spot-holds line false from holds = always-holds line (sometimes line from) (sometimes-holds line from holds)

-- C's pointer stays a word number below 262,144
vertical-at-lt : (row : ℕ) (upward : Bool) (from : Spot) → from.at.word < pointer_end → (vertical row upward from).at.word < pointer_end
unfolding vertical
vertical-at-lt row true from small = omega arith
vertical-at-lt row false from small = omega arith

horizontal-at-lt : (leftward : Bool) (from : Spot) → from.at.word < pointer_end → (horizontal leftward from).at.word < pointer_end
unfolding left right
horizontal-at-lt true from small =
    if-either (λ (to : Pointer). to.word < pointer_end) (eqb from.shift 0) (down from.at) from.at (omega arith) small
horizontal-at-lt false from small =
    if-either (λ (to : Pointer). to.word < pointer_end) (eqb from.shift 15) (up from.at) from.at (omega arith) small

pub moved_spot-at-lt : (line : Line) (sign : Bool) (from : Spot) → from.at.word < pointer_end → (moved_spot line sign from).at.word < pointer_end
moved_spot-at-lt = moved_spot-holds (λ (to : Spot). to.at.word < pointer_end) vertical-at-lt horizontal-at-lt
