-- The shift of nought: by 0 the pair gives the word itself, whatever stood earlier, ascending and descending.
use Rattle.std.specs.Prelude.{ℕ, ◌<◌, ◌≡◌}
use Rattle.word.specs.declared.types.Direction.{Direction}
use Rattle.word.specs.Shift.{shifted}

abbrev pub ShiftOfNought : Type 0
ShiftOfNought =
    (direction : Direction) (earlier this : ℕ)
    → earlier < 65536
    → this < 65536
    → shifted direction 0 earlier this ≡ this
