-- Paper 01, "Kept for lines and Copper lists": the two moves after a dot.
use Rattle.std.specs.Prelude.{ℕ, ◌+◌, ◌%◌, Bool, not, ◌||◌, eqb, if◌then◌else◌}
use Rattle.word.specs.Pointer.{up, down, plus, minus}
use Rattle.line.specs.declared.types.Line.{Line}
use Rattle.line.specs.declared.types.Spot.{Spot}

-- "Down adds the C modulo to the C pointer, up takes it away"
unfoldable pub vertical : (row : ℕ) → (upward : Bool) → Spot → Spot
vertical row upward spot =
    record {
      at = if upward then minus row spot.at else plus row spot.at;
      shift = spot.shift;
    }

-- "right and left change the shift by one, modulo 16, and the pointer moves up or down one where that wraps"
unfoldable pub right : Spot → Spot
right spot =
    record {
      at = if eqb spot.shift 15 then up spot.at else spot.at;
      shift = (spot.shift + 1) % 16;
    }

unfoldable pub left : Spot → Spot
left spot =
    record {
      at = if eqb spot.shift 0 then down spot.at else spot.at;
      shift = (spot.shift + 15) % 16;
    }

abbrev pub horizontal : (leftward : Bool) → Spot → Spot
horizontal leftward spot = if leftward then left spot else right spot

-- "SUD (bit 4) 1: the sometimes move is vertical, the always move horizontal; 0: the reverse. SUL (3), AUL (2) 1: left or
-- up."
unfoldable pub sometimes : Line → Spot → Spot
sometimes line spot =
    if line.octant.sud then vertical line.row line.octant.sul spot else
    horizontal line.octant.sul spot

unfoldable pub always : Line → Spot → Spot
always line spot =
    if line.octant.sud then horizontal line.octant.aul spot else
    vertical line.row line.octant.aul spot

-- "if sign is 0 the sometimes move, then the always move"
unfoldable pub moved_spot : Line → (sign : Bool) → Spot → Spot
moved_spot line sign spot = always line (if sign then spot else sometimes line spot)

-- one of them was vertical: the always move, or the sometimes move, if it was made
abbrev pub went_vertical : Line → (sign : Bool) → Bool
went_vertical line sign = not line.octant.sud || not sign
