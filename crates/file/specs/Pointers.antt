-- Paper 01, "Memory and registers": a pointer in its two registers, and the zero flag in the last word.
use Rattle.std.specs.Prelude.{ℕ, ◌+◌, Bool, List, get_or, set, if◌then◌else◌}
use Rattle.word.specs.declared.types.Pointer.{Pointer}
use Rattle.word.specs.Pointer.{pointer, high, low}
use Rattle.file.specs.Places.{flag}

-- the pointer whose high half stands at a place of the file
unfoldable pub pointer_at : (file : List ℕ) → (place : ℕ) → Pointer
pointer_at file place = pointer (get_or file place 0) (get_or file (place + 1) 0)

-- a pointer written to its two registers
abbrev pub with_pointer : (place : ℕ) → Pointer → (file : List ℕ) → List ℕ
with_pointer place pointer file = set (set file place (high pointer)) (place + 1) (low pointer)

-- "The zero flag becomes 1 exactly when every final word was zero"
unfoldable pub put_flag : (allzero : Bool) → (file : List ℕ) → List ℕ
put_flag allzero file = set file flag (if allzero then 1 else 0)
