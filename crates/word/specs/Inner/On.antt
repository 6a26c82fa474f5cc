-- A move by words that lead up or down, whichever: where it comes to, and whether that goes round.
use Rattle.std.specs.Prelude.{ℕ, ◌+◌, ◌-◌, ◌%◌, Bool, leb, ltb, if◌then◌else◌}
use Rattle.word.specs.declared.types.Pointer.{Pointer}
use Rattle.word.specs.declared.types.Move.{Move}
use Rattle.word.specs.Pointer.{pointer_end}

-- so many words up, or what is left of 262,144 words down
unfoldable pub moved_on : (words : ℕ) → (up : Bool) → Pointer → Move
moved_on words up pointer =
    record {
      to = record { word = (pointer.word + words) % pointer_end };
      round =
          if up then leb (pointer_end - words) pointer.word else
          ltb pointer.word (pointer_end - words);
    }
