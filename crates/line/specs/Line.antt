-- Paper 01, "Kept for lines and Copper lists": the line, "one dot per row of the size, stored before the next is fetched".
use Rattle.std.specs.Prelude.{ℕ, zero, suc, ◌+◌, true, ◌&&◌, List, [], ◌∷◌, eqb, get_or, set, if◌then◌else◌}
use Rattle.word.specs.Repeat.{repeated}
use Rattle.line.specs.declared.types.Line.{Line}
use Rattle.line.specs.declared.types.Spot.{Spot}
use Rattle.line.specs.declared.types.Dot.{Dot}
use Rattle.line.specs.declared.types.Drawn.{Drawn}
use Rattle.line.specs.Texture.{lower}
use Rattle.line.specs.Word.{dot_word}
use Rattle.line.specs.Sing.{is_stored}
use Rattle.line.specs.Move.{moved_spot, went_vertical}
use Rattle.line.specs.Accumulator.{gained, sign_of}

-- the dot after this one; moves and accumulator both go by this one's sign
unfoldable pub next : Line → Dot → Dot
next line dot =
    record {
      spot = moved_spot line dot.sign dot.spot;
      bit = lower dot.bit;
      accumulator = gained line.gains dot.sign dot.accumulator;
      sign = sign_of (gained line.gains dot.sign dot.accumulator);
      first = went_vertical line dot.sign;
    }

-- where so many dots stand, stored or not
unfoldable pub spots : Line → (dots : ℕ) → Dot → List Spot
spots line zero dot = []
spots line (suc remaining) dot = dot.spot ∷ spots line remaining (next line dot)

-- memory, and how far the line has come
pub record State : Type 0 where
  pub memory : List ℕ
  pub drawn : Drawn

abbrev pub state : (memory : List ℕ) → Drawn → State
state memory drawn = record { memory = memory; drawn = drawn }

-- the word of the dot that is next: C's is fetched as memory then stands
abbrev pub word_here : Line → State → ℕ
word_here line now = dot_word line now.drawn.dot (get_or now.memory now.drawn.dot.spot.at.word 0)

-- the dot stored, if it is: "D's pointer follows C's", so that the word goes back to where C's came from, and is counted
unfoldable pub dot_stored : Line → State → State
dot_stored line now =
    if is_stored line now.drawn.dot then
    state (set now.memory now.drawn.dot.spot.at.word (word_here line now))
    (record {
      dot = now.drawn.dot;
      allzero = now.drawn.allzero && eqb (word_here line now) 0;
      stored = now.drawn.stored + 1;
    })
    else now

-- what follows "every dot, the last too"
abbrev pub advanced : Line → Drawn → Drawn
advanced line drawn =
    record { dot = next line drawn.dot; allzero = drawn.allzero; stored = drawn.stored }

unfoldable pub one_dot : Line → State → State
one_dot line now = state (dot_stored line now).memory (advanced line (dot_stored line now).drawn)

-- a line before its first dot, and after all its dots
abbrev pub begun : Dot → Drawn
begun dot = record { dot = dot; allzero = true; stored = 0 }

unfoldable pub line_blit : Line → (dots : ℕ) → State → State
line_blit line dots now = repeated (λ _. one_dot line) dots now
