-- Laws of all dots done by their marks, and of what is left.
use Rattle.word.proofs.Base.{◌≡◌, ap, ℕ, ◌+◌, ◌-◌, ◌%◌, ◌/◌, ◌<◌, ◌≤◌, arith, Bool, true, false, ◌&&◌, eqb, List, get_or, set}
use Rattle.word.specs.Pointer.{pointer_end}
use Rattle.word.proofs.RepeatLaws.{repeated-turn, repeated-done}
use Rattle.file.specs.Places.{pointer_a, pointer_c, pointer_d}
use Rattle.file.specs.Pointers.{with_pointer, put_flag}
use Rattle.line.specs.declared.types.Line.{Line}
use Rattle.line.specs.declared.types.Dot.{Dot}
use Rattle.line.specs.declared.types.Drawn.{Drawn}
use Rattle.line.specs.Word.{dot_word}
use Rattle.line.specs.Sing.{is_stored}
use Rattle.line.specs.Line.{State, state, dot_stored, one_dot, begun, line_blit}
use Rattle.line.specs.Leave.{leave}
use Rattle.line.specs.declared.marks.Mark.{Mark}
use Rattle.line.specs.declared.marks.Marked.{Marked}
use Rattle.line.specs.declared.marks.Steps.{Steps}
use Rattle.line.specs.Inner.Walk.{dot_of, mark_of, drawn_of, steps, step_by, walked}
use Rattle.line.proofs.WalkLaws.{walked-is-next, dot_of-of-mark_of}
use Rattle.line.proofs.LineLaws.{one_dot-counts}

module _ (memory : List ℕ) (line : Line) (here : Marked) (stores : Bool) (of-stores : stores ≡ is_stored line (dot_of here.mark)) where
  pub dot_stored-when-stored : (place c word : ℕ) (after : List ℕ) → stores ≡ true
      → place ≡ here.mark.pixel / 16 % pointer_end
      → c ≡ get_or memory place 0 → word ≡ dot_word line (dot_of here.mark) c
      → after ≡ set memory place word
      → state after (drawn_of (record { mark = here.mark; allzero = here.allzero && eqb word 0; stored = here.stored + 1 }))
      ≡ dot_stored line (state memory (drawn_of here))
  unfolding dot_stored
  dot_stored-when-stored place c word after holds there fetched made written = rw (← of-stores, holds, written, made, fetched, there)

  pub dot_stored-when-not : stores ≡ false → state memory (drawn_of here) ≡ dot_stored line (state memory (drawn_of here))
  unfolding dot_stored
  dot_stored-when-not fails = rw (← of-stores, fails)

pub one_dot-of-parts : (memory after : List ℕ) (line : Line) (by : Steps) (here between : Marked) (mark : Mark)
    → by ≡ steps line
    → (between.mark ≡ here.mark) × (state after (drawn_of between) ≡ dot_stored line (state memory (drawn_of here)))
    → mark ≡ walked (step_by by between.mark.sign) between.mark
    → state after (drawn_of (record { mark = mark; allzero = between.allzero; stored = between.stored }))
    ≡ one_dot line (state memory (drawn_of here))
unfolding one_dot
one_dot-of-parts memory after line by here between mark paces (same, stores) goes =
    rw (← stores, goes, paces, walked-is-next line between.mark)

-- what the loop over the dots keeps: room for the count
pub one_dot-room : (line : Line) (memory after : List ℕ) (here there : Marked) → state after (drawn_of there) ≡ one_dot line (state memory (drawn_of here))
    → (done : ℕ) → here.stored ≤ done → there.stored ≤ done + 1
one_dot-room line memory after here there turn done room =
    let count : there.stored ≤ here.stored + 1 = rw (ap (λ (now : State). now.drawn.stored) turn) (one_dot-counts line (state memory (drawn_of here))) in
    omega arith

pub line_blit-turn : (line : Line) (dots done : ℕ) (memory after : List ℕ) (here there : Drawn) (whole : State)
    → done < dots → state after there ≡ one_dot line (state memory here) → line_blit line (dots - done) (state memory here) ≡ whole
    → line_blit line (dots - (done + 1)) (state after there) ≡ whole
unfolding line_blit
line_blit-turn line dots done memory after here there whole more turn same =
    let left : dots - done - 1 ≡ dots - (done + 1) = omega arith in
    rw (← left) (repeated-turn (λ _. one_dot line) (dots - done) (state memory here) (state after there) whole (omega arith) turn same)

pub line_blit-done : (line : Line) (dots done : ℕ) (memory : List ℕ) (here : Drawn) (whole : State)
    → dots ≤ done → line_blit line (dots - done) (state memory here) ≡ whole → state memory here ≡ whole
unfolding line_blit
line_blit-done line dots done memory here whole none same = repeated-done (λ _. one_dot line) (dots - done) (state memory here) whole (omega arith) same

pub line_blit-of-marks : (line : Line) (dots : ℕ) (first dot : Dot) (mark : Mark) (end : Marked) (memory after : List ℕ)
    → first.spot.at.word < pointer_end → first.spot.shift < 16 → first.bit < 16
    → mark ≡ mark_of first → state after (drawn_of end) ≡ line_blit line dots (state memory (begun (dot_of mark))) → dot ≡ dot_of end.mark
    → state after (record { dot = dot; allzero = end.allzero; stored = end.stored }) ≡ line_blit line dots (state memory (begun first))
line_blit-of-marks line dots first dot mark end memory after word shift bit marks does is =
    rw is (rw (marks, dot_of-of-mark_of first word shift bit) at does)

pub leave-of-parts : (end : Drawn) (file one two three four : List ℕ)
    → one ≡ set file (pointer_a + 1) end.dot.accumulator
    → two ≡ with_pointer pointer_c end.dot.spot.at one
    → three ≡ with_pointer pointer_d end.dot.spot.at two
    → four ≡ put_flag end.allzero three
    → four ≡ leave end file
unfolding leave
leave-of-parts end file one two three four first second third fourth = rw (fourth, third, second, first)
