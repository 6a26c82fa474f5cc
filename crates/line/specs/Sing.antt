-- Paper 01, "Kept for lines and Copper lists": "With SING .. only the first dot and the first after each vertical move are
-- stored."
use Rattle.std.specs.Prelude.{Bool, not, ◌||◌}
use Rattle.line.specs.declared.types.Line.{Line}
use Rattle.line.specs.declared.types.Dot.{Dot}

abbrev pub is_stored : Line → Dot → Bool
is_stored line dot = not line.sing || dot.first
