-- Paper 01, "The area blit", and paper 02, W12: the moves of a channel of an area blit, and whether it goes round.
use Rattle.std.specs.Prelude.{ℕ, zero, suc, Bool, ◌&&◌, ◌||◌, List, [], ◌∷◌, ◌++◌}
use Rattle.word.specs.declared.types.Direction.{Direction}
use Rattle.word.specs.declared.types.Pointer.{Pointer}
use Rattle.word.specs.declared.types.Move.{Move}
use Rattle.word.specs.Pointer.{moved, next_row}
use Rattle.word.specs.Round.{word_move, modulo_move}
use Rattle.refusal.specs.declared.types.AreaPlan.{AreaPlan}
use Rattle.round.specs.Between.{went_round}

-- after each word of a row its pointer moves one up or down; after the last the modulo follows: "A row's last step and its
-- modulo are two moves, and either counts"
unfoldable pub row_moves : Direction → (modulo width : ℕ) → Pointer → List (List Move)
row_moves direction modulo zero pointer = []
row_moves direction modulo (suc zero) pointer =
    (word_move direction pointer ∷ modulo_move direction modulo (moved direction pointer) ∷ []) ∷ []
row_moves direction modulo (suc (suc more)) pointer =
    (word_move direction pointer ∷ []) ∷ row_moves direction modulo (suc more) (moved direction pointer)

-- after each word of all rows
unfoldable pub channel_moves : Direction → (width modulo rows : ℕ) → Pointer → List (List Move)
channel_moves direction width modulo zero pointer = []
channel_moves direction width modulo (suc remaining) pointer =
    row_moves direction modulo width pointer
    ++ channel_moves direction width modulo remaining (next_row direction width modulo pointer)

-- a used channel goes round
unfoldable pub channel_round : Direction → (used : Bool) → (width modulo rows : ℕ) → Pointer → Bool
channel_round direction used width modulo rows pointer =
    used && went_round (channel_moves direction width modulo rows pointer)

-- a channel of a blit does
abbrev pub runs_round : AreaPlan → (used : Bool) → (modulo : ℕ) → Pointer → Bool
runs_round by used modulo at = channel_round by.setup.direction used by.width modulo by.height at

-- "some used channel", A to D
unfoldable pub area_round : AreaPlan → Bool
area_round by =
    runs_round by by.setup.uses.a by.setup.modulos.a by.pointers.a
    || runs_round by by.setup.uses.b by.setup.modulos.b by.pointers.b
    || runs_round by by.setup.uses.c by.setup.modulos.c by.pointers.c
    || runs_round by by.setup.uses.d by.setup.modulos.d by.pointers.d
