-- Laws of a line's moves: a dot tells, or the rest does.
use Rattle.word.proofs.Base.{◌≡◌, refl, sym, ap, ◌∙◌, ℕ, suc, ◌+◌, ◌-◌, ◌<◌, ◌≤◌, mod-lt, arith, Bool, true, false, ◌||◌}
use mir.Syntax.{w32}
use mir.Val.{Fits}
use Rattle.word.specs.Pointer.{pointer_end}
use Rattle.line.specs.declared.types.Line.{Line}
use Rattle.line.specs.declared.types.Dot.{Dot}
use Rattle.line.specs.declared.marks.Mark.{Mark}
use Rattle.line.specs.declared.marks.Steps.{Steps}
use Rattle.line.specs.Line.{next}
use Rattle.line.specs.Inner.Walk.{pixel_end, spot_of, dot_of, mark_of, steps, step_by, walked}
use Rattle.line.proofs.WalkLaws.{walked-is-next, dot_of-of-mark_of}
use Rattle.round.specs.Between.{between, any_round, went_round}
use Rattle.round.specs.Line.{dot_moves, line_moves}
use Rattle.round.proofs.BetweenLaws.{went_round-of-more}

-- a dot that another follows, and the last
pub went_round-of-dots : (line : Line) (remaining : ℕ) (mark : Mark)
    → went_round (line_moves line (suc (suc remaining)) (dot_of mark))
    ≡ (any_round (dot_moves line mark.sign (spot_of mark.pixel)) || went_round (line_moves line (suc remaining) (dot_of (walked (step_by (steps line) mark.sign) mark))))
unfolding line_moves
went_round-of-dots line remaining mark =
    went_round-of-more (dot_moves line mark.sign (spot_of mark.pixel)) (line_moves line (suc remaining) (next line (dot_of mark))) tt
    ∙ ap (λ (dot : Dot). any_round (dot_moves line mark.sign (spot_of mark.pixel)) || went_round (line_moves line (suc remaining) dot)) (sym (walked-is-next line mark))

pub went_round-of-dot : (line : Line) (mark : Mark) → went_round (line_moves line 1 (dot_of mark)) ≡ false
unfolding line_moves between any_round
went_round-of-dot line mark = refl

-- a turn of the loop over the dots, counted from 1, and its end
module _ (line : Line) (dots index : ℕ) (here : Mark) (whole : Bool) (same : went_round (line_moves line (dots + 1 - index) (dot_of here)) ≡ whole) where
  abbrev later : Bool
  later = went_round (line_moves line (dots + 1 - (index + 1)) (dot_of (walked (step_by (steps line) here.sign) here)))

  module _ (more : index < dots) where
    dots-follow : (any_round (dot_moves line here.sign (spot_of here.pixel)) || later) ≡ whole
    dots-follow =
        let this : dots + 1 - index ≡ suc (suc (dots - (index + 1))) = omega arith in
        let next : dots + 1 - (index + 1) ≡ suc (dots - (index + 1)) = omega arith in
        rw next (sym (went_round-of-dots line (dots - (index + 1)) here) ∙ (rw this at same))

    module _ (told : Bool) (of-dot : told ≡ any_round (dot_moves line here.sign (spot_of here.pixel))) where
      pub dots-when-round : told ≡ true → true ≡ whole
      dots-when-round goes = ap (λ (first : Bool). first || later) (sym goes ∙ of-dot) ∙ dots-follow

      pub dots-turn : (by : Steps) (after : Mark) → told ≡ false → by ≡ steps line → after ≡ walked (step_by by here.sign) here
          → went_round (line_moves line (dots + 1 - (index + 1)) (dot_of after)) ≡ whole
      dots-turn by after stays paces turn =
          rw (turn, paces) (ap (λ (first : Bool). first || later) (sym stays ∙ of-dot) ∙ dots-follow)

  pub dots-done : index ≤ dots → dots ≤ index → false ≡ whole
  dots-done few end =
      let only : dots + 1 - index ≡ 1 = omega arith in
      sym (went_round-of-dot line here) ∙ (rw only at same)

pub walked-lt : (by : Steps) (here after : Mark) → after ≡ walked (step_by by here.sign) here → after.pixel < pixel_end
walked-lt by here after turn = rw turn (mod-lt (here.pixel + (step_by by here.sign).pixels) (omega arith))

pub mark-lt : (first : Dot) (mark : Mark) → mark ≡ mark_of first → mark.pixel < pixel_end
mark-lt first mark same = rw same (omega arith)

pub mark-fits : (first : Dot) (mark : Mark) (far : ℕ) → mark ≡ mark_of first → far ≤ 2147484672 → Fits w32 (mark.pixel + far)
mark-fits first mark far same near = let small = mark-lt first mark same in record { fits = omega arith }

-- from the first dot's mark
pub line_moves-of-mark : (line : Line) (dots : ℕ) (first : Dot) (mark : Mark) (told : Bool)
    → first.spot.at.word < pointer_end → first.spot.shift < 16 → first.bit < 16 → mark ≡ mark_of first
    → told ≡ went_round (line_moves line dots (dot_of mark)) → told ≡ went_round (line_moves line dots first)
line_moves-of-mark line dots first mark told word shift bit marks same = rw (marks, dot_of-of-mark_of first word shift bit) at same
