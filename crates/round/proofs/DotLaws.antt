-- Laws of a dot's moves, told by its pixel: each goes round where its pixel passes an end of all pixels.
use Rattle.std.specs.Prelude.{if◌then◌else◌}
use Rattle.word.proofs.Base.{◌≡◌, refl, sym, ap, ◌∙◌, ℕ, ◌+◌, ◌-◌, ◌*◌, ◌/◌, ◌%◌, ◌<◌, mod-eq_of_lt, dec_lt, arith, Bool, true, false, ◌||◌, not, List}
use Rattle.word.proofs.Base.{eqb, leb, ltb, eqb-true, eqb-false, lt-leb, lt-ltb, le-ltb, [], ◌∷◌}
use native.Mathlib.Nat.{div-add-mod'}
use mathlib.Core.Bool.{or-false}
use Rattle.word.specs.declared.types.Move.{Move}
use Rattle.word.specs.Pointer.{pointer_end}
use Rattle.word.specs.Round.{plus_round, minus_round, up_move, down_move, plus_move, minus_move}
use Rattle.line.specs.declared.types.Line.{Line}
use Rattle.line.specs.declared.types.Spot.{Spot}
use Rattle.line.specs.Move.{sometimes}
use Rattle.line.specs.Inner.Walk.{pixel_end, spot_of, sometimes_pixels}
use Rattle.line.proofs.WalkLaws.{sometimes-is-pixels, spot_of-of-remainder}
use Rattle.round.specs.Between.{any_round}
use Rattle.round.specs.Line.{vertical_moves, horizontal_moves, sometimes_moves, always_moves, dot_moves}
use Rattle.round.proofs.BetweenLaws.{any_round-of-append}

-- one vertical move
module _ (row : ℕ) (upward : Bool) (pixel : ℕ) (made : Move) where
  pub vertical_moves-when-up : upward ≡ true → made ≡ minus_move row (spot_of pixel).at → made.round ≡ any_round (vertical_moves row upward (spot_of pixel))
  unfolding any_round
  vertical_moves-when-up rises same = rw (rises, same) (sym (or-false (minus_round row (spot_of pixel).at)))

  pub vertical_moves-when-down : upward ≡ false → made ≡ plus_move row (spot_of pixel).at → made.round ≡ any_round (vertical_moves row upward (spot_of pixel))
  unfolding any_round
  vertical_moves-when-down falls same = rw (falls, same) (sym (or-false (plus_round row (spot_of pixel).at)))

-- one horizontal move
pub left-round : (pixel : ℕ) → pixel < pixel_end → ltb pixel 1 ≡ any_round (horizontal_moves true (spot_of pixel))
unfolding any_round
left-round pixel small = by-shift (eqb (pixel % 16) 0) refl
  where
    by-shift : (wraps : Bool) → eqb (pixel % 16) 0 ≡ wraps → ltb pixel 1 ≡ any_round (if wraps then down_move (spot_of pixel).at ∷ [] else [])
    by-shift true wraps =
        let none = eqb-true (pixel % 16) 0 wraps in
        by_place (dec_lt pixel 1) none ∙ sym (or-false (ltb (pixel / 16 % pointer_end) 1))
      where
        by_place : Dec (pixel < 1) → pixel % 16 ≡ 0 → ltb pixel 1 ≡ ltb (pixel / 16 % pointer_end) 1
        by_place (yes first) none = lt-ltb pixel 1 first ∙ sym (lt-ltb (pixel / 16 % pointer_end) 1 (omega arith))
        by_place (no later) none = le-ltb pixel 1 (omega arith) ∙ sym (le-ltb (pixel / 16 % pointer_end) 1 (omega arith))
    by-shift false stays = let some = eqb-false (pixel % 16) 0 stays in le-ltb pixel 1 (omega arith)

pub right-round : (pixel : ℕ) → pixel < pixel_end → leb (pixel_end - 1) pixel ≡ any_round (horizontal_moves false (spot_of pixel))
unfolding any_round
right-round pixel small = by-shift (eqb (pixel % 16) 15) refl
  where
    by-shift : (wraps : Bool) → eqb (pixel % 16) 15 ≡ wraps → leb (pixel_end - 1) pixel ≡ any_round (if wraps then up_move (spot_of pixel).at ∷ [] else [])
    by-shift true wraps =
        let last = eqb-true (pixel % 16) 15 wraps in
        by_place (dec_lt pixel (pixel_end - 1)) last ∙ sym (or-false (leb pointer_end (pixel / 16 % pointer_end + 1)))
      where
        by_place : Dec (pixel < pixel_end - 1) → pixel % 16 ≡ 15 → leb (pixel_end - 1) pixel ≡ leb pointer_end (pixel / 16 % pointer_end + 1)
        by_place (yes before) last =
            let whole : pixel / 16 * 16 + pixel % 16 ≡ pixel = div-add-mod' pixel 16 in
            let inside : pixel / 16 % pointer_end ≡ pixel / 16 = mod-eq_of_lt (omega arith) in
            lt-leb (pixel_end - 1) pixel before ∙ sym (lt-leb pointer_end (pixel / 16 % pointer_end + 1) (omega (arith, inside)))
        by_place (no there) last = let is : pixel ≡ pixel_end - 1 = omega arith in rw is
    by-shift false stays = let before = eqb-false (pixel % 16) 15 stays in lt-leb (pixel_end - 1) pixel (omega arith)

module _ (leftward : Bool) (pixel : ℕ) (small : pixel < pixel_end) where
  pub horizontal_moves-when-left : leftward ≡ true → ltb pixel 1 ≡ any_round (horizontal_moves leftward (spot_of pixel))
  horizontal_moves-when-left left = rw left (left-round pixel small)

  pub horizontal_moves-when-right : leftward ≡ false → leb (pixel_end - 1) pixel ≡ any_round (horizontal_moves leftward (spot_of pixel))
  horizontal_moves-when-right right = rw right (right-round pixel small)

-- the always move is the other one
pub always_moves-of-move : (line : Line) (spot : Spot) (told : Bool)
    → told ≡ any_round (if not line.octant.sud then vertical_moves line.row line.octant.aul spot else horizontal_moves line.octant.aul spot)
    → told ≡ any_round (always_moves line spot)
unfolding always_moves
always_moves-of-move line spot told same = same ∙ ap any_round (exchanged line.octant.sud (horizontal_moves line.octant.aul spot) (vertical_moves line.row line.octant.aul spot))
  where
    exchanged : (test : Bool) (one other : List Move) → (if not test then other else one) ≡ (if test then one else other)
    exchanged true one other = refl
    exchanged false one other = refl

-- the moves of a dot: the always move from where the sometimes move led
pub dot_moves-of-both : (line : Line) (pixel : ℕ)
    → any_round (dot_moves line false (spot_of pixel))
    ≡ (any_round (sometimes_moves line (spot_of pixel)) || any_round (always_moves line (spot_of ((pixel + sometimes_pixels line) % pixel_end))))
unfolding dot_moves
dot_moves-of-both line pixel =
    any_round-of-append (sometimes_moves line (spot_of pixel)) (always_moves line (sometimes line (spot_of pixel)))
    ∙ ap (λ (spot : Spot). any_round (sometimes_moves line (spot_of pixel)) || any_round (always_moves line spot))
    (sometimes-is-pixels line pixel ∙ sym (spot_of-of-remainder (pixel + sometimes_pixels line)))

module _ (line : Line) (sign : Bool) (pixel : ℕ) (told : Bool) where
  pub dot_moves-when-set : sign ≡ true → told ≡ any_round (always_moves line (spot_of pixel)) → told ≡ any_round (dot_moves line sign (spot_of pixel))
  unfolding dot_moves
  dot_moves-when-set set same = rw set same

  module _ (first : Bool) (clear : sign ≡ false) (same : first ≡ any_round (sometimes_moves line (spot_of pixel))) where
    pub dot_moves-when-sometimes : first ≡ true → true ≡ any_round (dot_moves line sign (spot_of pixel))
    dot_moves-when-sometimes goes = rw (clear, dot_moves-of-both line pixel, ← same, goes)

    pub dot_moves-when-always : (sometimes moved : ℕ) → first ≡ false → sometimes ≡ sometimes_pixels line → moved ≡ (pixel + sometimes) % pixel_end
        → told ≡ any_round (always_moves line (spot_of moved)) → told ≡ any_round (dot_moves line sign (spot_of pixel))
    dot_moves-when-always sometimes moved stays by there always = rw (clear, dot_moves-of-both line pixel, ← same, stays, ← by, ← there) always
