-- Paper 02, W12: "Each pointer move must now say whether it went round": its plain sum, before it is taken modulo 262,144,
-- is below 0 or above 262,143.
use Rattle.std.specs.Prelude.{ℕ, ◌+◌, ◌-◌, ◌%◌, Bool, leb, ltb, if◌then◌else◌}
use Rattle.word.specs.declared.types.Direction.{Direction}
use Rattle.word.specs.declared.types.Direction.TheVariants.{Ascending, Descending}
use Rattle.word.specs.declared.types.Pointer.{Pointer}
use Rattle.word.specs.declared.types.Move.{Move}
use Rattle.word.specs.Pointer.{pointer_end, downward, up, down, plus, minus, moved, passed}

-- one up: the sum is above 262,143; one down: it is below 0
abbrev pub up_round : Pointer → Bool
up_round pointer = leb pointer_end (pointer.word + 1)

abbrev pub down_round : Pointer → Bool
down_round pointer = ltb pointer.word 1

-- half of a modulo, which is two's complement: it stands for a number below 0, and how far below that is
abbrev pub is_below : (words : ℕ) → Bool
is_below words = leb downward (words % pointer_end)

abbrev pub far_below : (words : ℕ) → ℕ
far_below words = pointer_end - words % pointer_end

-- added: a number below 0 may lead below 0, any other above 262,143; taken away: the reverse
unfoldable pub plus_round : (words : ℕ) → Pointer → Bool
plus_round words pointer =
    if is_below words then ltb pointer.word (far_below words) else
    leb pointer_end (pointer.word + words % pointer_end)

unfoldable pub minus_round : (words : ℕ) → Pointer → Bool
minus_round words pointer =
    if is_below words then leb pointer_end (pointer.word + far_below words) else
    ltb pointer.word (words % pointer_end)

-- after a word, and after a row's last word by the modulo
unfoldable pub moved_round : Direction → Pointer → Bool
moved_round Ascending pointer = up_round pointer
moved_round Descending pointer = down_round pointer

unfoldable pub passed_round : Direction → (words : ℕ) → Pointer → Bool
passed_round Ascending words pointer = plus_round words pointer
passed_round Descending words pointer = minus_round words pointer

-- the moves: where each leads, and whether it goes round
abbrev pub up_move : Pointer → Move
up_move pointer = record { to = up pointer; round = up_round pointer }

abbrev pub down_move : Pointer → Move
down_move pointer = record { to = down pointer; round = down_round pointer }

abbrev pub plus_move : (words : ℕ) → Pointer → Move
plus_move words pointer = record { to = plus words pointer; round = plus_round words pointer }

abbrev pub minus_move : (words : ℕ) → Pointer → Move
minus_move words pointer = record { to = minus words pointer; round = minus_round words pointer }

abbrev pub word_move : Direction → Pointer → Move
word_move direction pointer = record { to = moved direction pointer; round = moved_round direction pointer }

abbrev pub modulo_move : Direction → (words : ℕ) → Pointer → Move
modulo_move direction words pointer = record { to = passed direction words pointer; round = passed_round direction words pointer }
