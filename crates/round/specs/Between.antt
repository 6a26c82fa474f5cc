-- Paper 02, W12: a channel "went round between two of its accesses".
-- A channel's moves are told as a list for each of its accesses, in order: the moves that follow it.
use Rattle.std.specs.Prelude.{Bool, false, ◌||◌, List, [], ◌∷◌, ◌++◌}
use Rattle.word.specs.declared.types.Move.{Move}

-- those "between two of its accesses": the moves after the last access don't count
unfoldable pub between : (after : List (List Move)) → List Move
between [] = []
between (last ∷ []) = []
between (moves ∷ next ∷ rest) = moves ++ between (next ∷ rest)

-- one of the moves went round
unfoldable pub any_round : List Move → Bool
any_round [] = false
any_round (move ∷ rest) = move.round || any_round rest

abbrev pub went_round : (after : List (List Move)) → Bool
went_round after = any_round (between after)
