-- Paper 02, W12: whether a blit that is done goes round, "exactly when some used channel (in a line, C) went round between
-- two of its accesses". It goes by register file and size alone: no move depends on memory.
use Rattle.std.specs.Prelude.{ℕ, Bool, List}
use Rattle.refusal.specs.Plan.{line_or_area, area_plan, line_plan}
use Rattle.round.specs.Channel.{area_round}
use Rattle.round.specs.Line.{line_round}

unfoldable pub goes_round : (file : List ℕ) → (size : ℕ) → Bool
goes_round file size = line_or_area file (line_round (line_plan file size)) (area_round (area_plan file size))
