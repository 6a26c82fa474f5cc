-- `drawing::draw::all_dots` meets its contract: what remains of the dots from here gives what the whole gives.
use Rattle.word.proofs.Base.{◌≡◌, ◌-◌, ◌≤◌, length}
use Rattle.line.specs.Line.{state, line_blit}
use Rattle.line.specs.Inner.Walk.{drawn_of}
use Rattle.drawing.proofs.draw.all_dots.Given as goal

abbrev pub invariant-loop-done : goal.invariant-loop-done
invariant-loop-done l = (line_blit l.line (l.dots - l.done) (state l.ram (drawn_of l.so_far)) ≡ line_blit l.line l.dots (state l.initial.ram (drawn_of l.initial.so_far)))
    × (l.so_far.stored ≤ l.done)
    × (length l.ram ≡ length l.initial.ram)
