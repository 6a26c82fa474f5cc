-- Laws of the words that a line touches: a dot tells for the rest.
use Rattle.word.proofs.Base.{◌≡◌, refl, sym, ◌∙◌, ℕ, zero, suc, ◌+◌, ◌-◌, ◌/◌, ◌%◌, ◌<◌, ◌≤◌, arith, Bool, true, false, ◌||◌, leb, le-leb, lt-leb}
use Rattle.word.specs.Pointer.{pointer_end}
use Rattle.line.specs.declared.types.Line.{Line}
use Rattle.line.specs.declared.types.Dot.{Dot}
use Rattle.line.specs.declared.marks.Mark.{Mark}
use Rattle.line.specs.declared.marks.Steps.{Steps}
use Rattle.line.specs.Line.{next, spots}
use Rattle.line.specs.Inner.Walk.{dot_of, mark_of, steps, step_by, walked}
use Rattle.line.proofs.MoveLaws.{moved_spot-at-lt}
use Rattle.line.proofs.WalkLaws.{walked-is-next, dot_of-of-mark_of}
use Rattle.refusal.specs.Touch.{line_touches, leaves}

-- the dots from one on leave memory where all do, of whichever line the steps are
unfoldable pub Same : (n : ℕ) (by : Steps) (dots : ℕ) (first : Mark) (dot : ℕ) (mark : Mark) → Type 0
Same n by dots first dot mark =
    (line : Line) → by ≡ steps line → leaves n (line_touches line (dots - dot) (dot_of mark)) ≡ leaves n (line_touches line dots (dot_of first))

module _ (n : ℕ) (by : Steps) (dots : ℕ) (first : Mark) where
  pub same-at-first : Same n by dots first 0 first
  unfolding Same
  same-at-first line paces = let all : dots - 0 ≡ dots = omega arith in rw all refl

  -- it tells, or those after it do
  leaves-of-dots : (line : Line) (dot : ℕ) (here : Mark) → dot < dots
      → leaves n (line_touches line (dots - dot) (dot_of here))
      ≡ (leb n (here.pixel / 16 % pointer_end) || leaves n (line_touches line (dots - (dot + 1)) (next line (dot_of here))))
  unfolding spots leaves
  leaves-of-dots line dot here more =
      let left : dots - dot ≡ suc (dots - (dot + 1)) = omega arith in
      rw left refl

  pub same-when-leaves : (line : Line) (dot : ℕ) (here : Mark) (word : ℕ) → by ≡ steps line → dot < dots
      → word ≡ here.pixel / 16 % pointer_end → n ≤ word → Same n by dots first dot here
      → true ≡ leaves n (line_touches line dots (dot_of first))
  unfolding Same
  same-when-leaves line dot here word paces more there outside same =
      rw (le-leb n (here.pixel / 16 % pointer_end) (rw (← there) outside)) at (sym (leaves-of-dots line dot here more) ∙ same line paces)

  pub same_turn : (dot : ℕ) (here after : Mark) (word : ℕ) → dot < dots
      → word ≡ here.pixel / 16 % pointer_end → word < n → after ≡ walked (step_by by here.sign) here
      → Same n by dots first dot here → Same n by dots first (dot + 1) after
  unfolding Same
  same_turn dot here after word more there inside turn same line paces =
      rw (turn, paces, walked-is-next line here)
      (rw (lt-leb n (here.pixel / 16 % pointer_end) (rw (← there) inside)) at (sym (leaves-of-dots line dot here more) ∙ same line paces))

  pub same-done : (line : Line) (dot : ℕ) (here : Mark) → by ≡ steps line → dots ≤ dot → Same n by dots first dot here
      → false ≡ leaves n (line_touches line dots (dot_of first))
  unfolding Same spots leaves
  same-done line dot here paces end same = let none : dots - dot ≡ 0 = omega arith in rw none at (same line paces)

module _ (n : ℕ) (line : Line) where
  -- from the first dot's mark
  pub line_touches-of-mark : (dots : ℕ) (first : Dot) (mark : Mark) (outside : Bool)
      → first.spot.at.word < pointer_end → first.spot.shift < 16 → first.bit < 16 → mark ≡ mark_of first
      → outside ≡ leaves n (line_touches line dots (dot_of mark)) → outside ≡ leaves n (line_touches line dots first)
  line_touches-of-mark dots first mark outside word shift bit marks told = rw (marks, dot_of-of-mark_of first word shift bit) at told

  pub line_touches-stay : (dots : ℕ) (here : Dot) → pointer_end ≤ n → here.spot.at.word < pointer_end → false ≡ leaves n (line_touches line dots here)
  unfolding spots leaves next
  line_touches-stay zero here long small = refl
  line_touches-stay (suc dots) here long small =
      rw (lt-leb n here.spot.at.word (omega arith))
      (line_touches-stay dots (next line here) long (moved_spot-at-lt line here.sign here.spot small))
