-- Paper 01, "Kept for lines and Copper lists", and paper 02, W12: the moves of a line's C, each by itself, and whether it
-- goes round. The accumulator isn't a pointer then, and D follows C.
use Rattle.std.specs.Prelude.{ℕ, zero, suc, Bool, List, [], ◌∷◌, ◌++◌, eqb, if◌then◌else◌}
use Rattle.word.specs.declared.types.Move.{Move}
use Rattle.word.specs.Round.{up_move, down_move, plus_move, minus_move}
use Rattle.line.specs.declared.types.Line.{Line}
use Rattle.line.specs.declared.types.Spot.{Spot}
use Rattle.line.specs.declared.types.Dot.{Dot}
use Rattle.line.specs.Move.{sometimes}
use Rattle.line.specs.Line.{next}
use Rattle.refusal.specs.declared.types.LinePlan.{LinePlan}
use Rattle.round.specs.Between.{went_round}

-- "Down adds the C modulo to the C pointer, up takes it away"
abbrev pub vertical_moves : (row : ℕ) → (upward : Bool) → Spot → List Move
vertical_moves row upward spot = (if upward then minus_move row spot.at else plus_move row spot.at) ∷ []

-- "right and left change the shift by one .., and the pointer moves up or down one where that wraps"
abbrev pub horizontal_moves : (leftward : Bool) → Spot → List Move
horizontal_moves leftward spot =
    if leftward then (if eqb spot.shift 0 then down_move spot.at ∷ [] else []) else
    (if eqb spot.shift 15 then up_move spot.at ∷ [] else [])

-- "SUD (bit 4) 1: the sometimes move is vertical, the always move horizontal; 0: the reverse."
unfoldable pub sometimes_moves : Line → Spot → List Move
sometimes_moves line spot =
    if line.octant.sud then vertical_moves line.row line.octant.sul spot else
    horizontal_moves line.octant.sul spot

unfoldable pub always_moves : Line → Spot → List Move
always_moves line spot =
    if line.octant.sud then horizontal_moves line.octant.aul spot else
    vertical_moves line.row line.octant.aul spot

-- "if sign is 0 the sometimes move, then the always move"
unfoldable pub dot_moves : Line → (sign : Bool) → Spot → List Move
dot_moves line sign spot =
    if sign then always_moves line spot else
    sometimes_moves line spot ++ always_moves line (sometimes line spot)

-- after each dot
unfoldable pub line_moves : Line → (dots : ℕ) → Dot → List (List Move)
line_moves line zero dot = []
line_moves line (suc remaining) dot = dot_moves line dot.sign dot.spot ∷ line_moves line remaining (next line dot)

-- "in a line, C"
unfoldable pub line_round : LinePlan → Bool
line_round by = went_round (line_moves by.line by.dots by.first)
