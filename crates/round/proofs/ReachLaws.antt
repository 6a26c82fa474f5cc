-- Laws of a line whose dots can't come to an end of memory: none of its moves goes round.
use Rattle.std.specs.Prelude.{if◌then◌else◌}
use Rattle.word.proofs.Base.{◌≡◌, refl, sym, ap, ap₂, ◌∙◌, ℕ, zero, suc, ◌+◌, ◌-◌, ◌*◌, ◌/◌, ◌%◌, ◌<◌, ◌≤◌, mod-lt, mul-le-mul, arith}
use Rattle.word.proofs.Base.{Bool, true, false, ◌&&◌, ◌||◌, leb, ltb, le-leb, lt-leb, le-ltb, leb-true, ltb-true}
use mathlib.Core.Bool.{or-false}
use mir.Syntax.{w32}
use mir.Val.{Fits}
use Rattle.word.specs.Pointer.{pointer_end, downward}
use Rattle.word.specs.Round.{plus_round, minus_round}
use Rattle.word.proofs.ChoiceLaws.{and_left, and_right}
use Rattle.line.specs.declared.types.Line.{Line}
use Rattle.line.specs.declared.types.Dot.{Dot}
use Rattle.line.specs.declared.marks.Mark.{Mark}
use Rattle.line.specs.Inner.Walk.{pixel_end, spot_of, dot_of, mark_of, vertical_pixels, horizontal_pixels, sometimes_pixels, always_pixels, steps, step_by, walked}
use Rattle.round.specs.Between.{any_round, went_round}
use Rattle.round.specs.Line.{vertical_moves, horizontal_moves, sometimes_moves, always_moves, dot_moves, line_moves}
use Rattle.round.specs.Inner.Reach.{rise, reach}
use Rattle.round.proofs.DotLaws.{left-round, right-round, dot_moves-when-set, dot_moves-of-both}
use Rattle.round.proofs.LineLaws.{went_round-of-dots, went_round-of-dot, line_moves-of-mark}

module _ (row by : ℕ) (same : by ≡ row % pointer_end) where
  pub reach-when-below : downward ≤ by → 16 * (pointer_end - by) + 1 ≡ reach row
  unfolding rise
  reach-when-below below = rw (← same, le-leb downward by below)

  pub reach-when-above : by < downward → 16 * by + 1 ≡ reach row
  unfolding rise
  reach-when-above above = rw (← same, lt-leb downward by above)

module _ (row dots pixels : ℕ) where
  pub farthest-is : pixels ≡ reach row → dots * pixels ≡ dots * reach row
  farthest-is same = ap (λ (by : ℕ). dots * by) same

  pub farthest-le : dots ≤ 1024 → pixels ≤ 2097153 → dots * pixels ≤ 2147484672
  farthest-le few near = mul-le-mul few near

  pub farthest-fits : dots ≤ 1024 → pixels ≤ 2097153 → Fits w32 (dots * pixels)
  farthest-fits few near = let far = farthest-le few near in record { fits = omega arith }

-- a move that doesn't go round, and leads no farther than so many pixels
pub record Near (told : Bool) (from to by : ℕ) : Type 0 where
  pub stays : told ≡ false
  pub back : from ≤ to + by
  pub forth : to ≤ from + by

-- a vertical move, by what the row stands for
vertical-near : (below upward : Bool) (gap pixel : ℕ) → gap < pointer_end → 16 * (if below then pointer_end - gap else gap) ≤ pixel
    → pixel + 16 * (if below then pointer_end - gap else gap) < pixel_end
    → Near
    (if upward then (if below then leb pointer_end (pixel / 16 % pointer_end + (pointer_end - gap)) else ltb (pixel / 16 % pointer_end) gap)
    else (if below then ltb (pixel / 16 % pointer_end) (pointer_end - gap) else leb pointer_end (pixel / 16 % pointer_end + gap)))
    pixel ((pixel + (if upward then pixel_end - gap * 16 else gap * 16)) % pixel_end) (16 * (if below then pointer_end - gap else gap))
vertical-near true true gap pixel short low high =
    record { stays = lt-leb pointer_end (pixel / 16 % pointer_end + (pointer_end - gap)) (omega arith); back = omega arith; forth = omega arith }
vertical-near false true gap pixel short low high =
    record { stays = le-ltb (pixel / 16 % pointer_end) gap (omega arith); back = omega arith; forth = omega arith }
vertical-near true false gap pixel short low high =
    record { stays = le-ltb (pixel / 16 % pointer_end) (pointer_end - gap) (omega arith); back = omega arith; forth = omega arith }
vertical-near false false gap pixel short low high =
    record { stays = lt-leb pointer_end (pixel / 16 % pointer_end + gap) (omega arith); back = omega arith; forth = omega arith }

vertical_moves-near : (row : ℕ) (upward : Bool) (pixel : ℕ) → rise row ≤ pixel → pixel + rise row < pixel_end
    → Near (any_round (vertical_moves row upward (spot_of pixel))) pixel ((pixel + vertical_pixels row upward) % pixel_end) (rise row)
unfolding any_round plus_round minus_round rise
vertical_moves-near row true pixel low high =
    rw or-false (vertical-near (leb downward (row % pointer_end)) true (row % pointer_end) pixel (mod-lt row (omega arith)) low high)
vertical_moves-near row false pixel low high =
    rw or-false (vertical-near (leb downward (row % pointer_end)) false (row % pointer_end) pixel (mod-lt row (omega arith)) low high)

horizontal_moves-near : (leftward : Bool) (pixel : ℕ) → 1 ≤ pixel → pixel + 1 < pixel_end
    → Near (any_round (horizontal_moves leftward (spot_of pixel))) pixel ((pixel + horizontal_pixels leftward) % pixel_end) 1
horizontal_moves-near true pixel low high =
    record { stays = sym (left-round pixel (omega arith)) ∙ le-ltb pixel 1 low; back = omega arith; forth = omega arith }
horizontal_moves-near false pixel low high =
    record { stays = sym (right-round pixel (omega arith)) ∙ lt-leb (pixel_end - 1) pixel (omega arith); back = omega arith; forth = omega arith }

-- the two moves of a dot: one is vertical, the other horizontal
abbrev sometimes_reach : Line → ℕ
sometimes_reach line = if line.octant.sud then rise line.row else 1

abbrev always_reach : Line → ℕ
always_reach line = if line.octant.sud then 1 else rise line.row

both-reach : (line : Line) → sometimes_reach line + always_reach line ≡ reach line.row
both-reach line = by-sud line.octant.sud
  where
    by-sud : (sud : Bool) → (if sud then rise line.row else 1) + (if sud then 1 else rise line.row) ≡ rise line.row + 1
    by-sud true = refl
    by-sud false = omega arith

module _ (line : Line) (pixel : ℕ) where
  sometimes_moves-near : sometimes_reach line ≤ pixel → pixel + sometimes_reach line < pixel_end
      → Near (any_round (sometimes_moves line (spot_of pixel))) pixel ((pixel + sometimes_pixels line) % pixel_end) (sometimes_reach line)
  unfolding sometimes_moves sometimes_pixels
  sometimes_moves-near = by-sud line.octant.sud
    where
      by-sud : (sud : Bool) → (if sud then rise line.row else 1) ≤ pixel → pixel + (if sud then rise line.row else 1) < pixel_end
          → Near (any_round (if sud then vertical_moves line.row line.octant.sul (spot_of pixel) else horizontal_moves line.octant.sul (spot_of pixel))) pixel
          ((pixel + (if sud then vertical_pixels line.row line.octant.sul else horizontal_pixels line.octant.sul)) % pixel_end)
          (if sud then rise line.row else 1)
      by-sud true low high = vertical_moves-near line.row line.octant.sul pixel low high
      by-sud false low high = horizontal_moves-near line.octant.sul pixel low high

  always_moves-near : always_reach line ≤ pixel → pixel + always_reach line < pixel_end
      → Near (any_round (always_moves line (spot_of pixel))) pixel ((pixel + always_pixels line) % pixel_end) (always_reach line)
  unfolding always_moves always_pixels
  always_moves-near = by-sud line.octant.sud
    where
      by-sud : (sud : Bool) → (if sud then 1 else rise line.row) ≤ pixel → pixel + (if sud then 1 else rise line.row) < pixel_end
          → Near (any_round (if sud then horizontal_moves line.octant.aul (spot_of pixel) else vertical_moves line.row line.octant.aul (spot_of pixel))) pixel
          ((pixel + (if sud then horizontal_pixels line.octant.aul else vertical_pixels line.row line.octant.aul)) % pixel_end)
          (if sud then 1 else rise line.row)
      by-sud true low high = horizontal_moves-near line.octant.aul pixel low high
      by-sud false low high = vertical_moves-near line.row line.octant.aul pixel low high

-- one move after another
near-of-both : (first second : Bool) (from one other by far near : ℕ) → Near first from ((from + one) % pixel_end) by
    → Near second ((from + one) % pixel_end) (((from + one) % pixel_end + other) % pixel_end) far → by + far ≡ near
    → Near (first || second) from ((from + (one + other)) % pixel_end) near
near-of-both first second from one other by far near this that sum =
    let low = this.back in
    let high = this.forth in
    let low-too = that.back in
    let high-too = that.forth in
    let end : (from + (one + other)) % pixel_end ≡ ((from + one) % pixel_end + other) % pixel_end = omega arith in
    record {
      stays = ap₂ ◌||◌ this.stays that.stays;
      back = omega (arith, end);
      forth = omega (arith, end);
    }

-- the moves of a dot, where the sign is 1 and where it is 0
dot_moves-near : (line : Line) (sign : Bool) (pixel : ℕ) → reach line.row ≤ pixel → pixel + reach line.row < pixel_end
    → Near (any_round (dot_moves line sign (spot_of pixel))) pixel ((pixel + (step_by (steps line) sign).pixels) % pixel_end) (reach line.row)
unfolding steps
dot_moves-near line true pixel low high =
    let sum = both-reach line in
    let always = always_moves-near line pixel (omega (arith, sum)) (omega (arith, sum)) in
    let low-always = always.back in
    let high-always = always.forth in
    record {
      stays = sym (dot_moves-when-set line true pixel _ refl refl) ∙ always.stays;
      back = omega (arith, sum);
      forth = omega (arith, sum);
    }
dot_moves-near line false pixel low high =
    let sum = both-reach line in
    let sometimes = sometimes_moves-near line pixel (omega (arith, sum)) (omega (arith, sum)) in
    let back = sometimes.back in
    let forth = sometimes.forth in
    let always = always_moves-near line ((pixel + sometimes_pixels line) % pixel_end) (omega (arith, sum)) (omega (arith, sum)) in
    rw (dot_moves-of-both line pixel)
    (near-of-both _ _ pixel (sometimes_pixels line) (always_pixels line) (sometimes_reach line) (always_reach line) (reach line.row) sometimes always sum)

-- so many dots follow, and none comes to an end
pub line_stays : (line : Line) (more : ℕ) (mark : Mark) → more * reach line.row ≤ mark.pixel → mark.pixel + more * reach line.row < pixel_end
    → went_round (line_moves line (suc more) (dot_of mark)) ≡ false
line_stays line zero mark low high = went_round-of-dot line mark
line_stays line (suc more) mark low high =
    let dot = dot_moves-near line mark.sign mark.pixel (omega arith) (omega arith) in
    let back = dot.back in
    let forth = dot.forth in
    went_round-of-dots line more mark
    ∙ ap₂ ◌||◌ dot.stays (line_stays line more (walked (step_by (steps line) mark.sign) mark) (omega arith) (omega arith))

-- by what the quick look tests
pub line-when-clear : (line : Line) (dots : ℕ) (first : Dot) (mark : Mark) (far : ℕ)
    → first.spot.at.word < pointer_end → first.spot.shift < 16 → first.bit < 16 → 1 ≤ dots → mark ≡ mark_of first
    → far ≡ dots * reach line.row → (leb far mark.pixel && ltb (mark.pixel + far) pixel_end) ≡ true → false ≡ went_round (line_moves line dots first)
line-when-clear line dots first mark far word shift bit some marks apart told =
    let low = leb-true far mark.pixel (and_left (leb far mark.pixel) (ltb (mark.pixel + far) pixel_end) told) in
    let high = ltb-true (mark.pixel + far) pixel_end (and_right (leb far mark.pixel) (ltb (mark.pixel + far) pixel_end) told) in
    line_moves-of-mark line dots first mark false word shift bit marks (by-dots dots some apart low high)
  where
    by-dots : (many : ℕ) → 1 ≤ many → far ≡ many * reach line.row → far ≤ mark.pixel → mark.pixel + far < pixel_end
        → false ≡ went_round (line_moves line many (dot_of mark))
    by-dots zero none apart low high = absurd (omega arith)
    by-dots (suc more) one apart low high = sym (line_stays line more mark (omega arith) (omega arith))
