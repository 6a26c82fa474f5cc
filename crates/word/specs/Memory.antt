-- Paper 01, "Memory and registers": "Chip memory is a lent run of N 16-bit words, N from 1 to 262,144."
use Rattle.std.specs.Prelude.{ℕ, Bool, not, ◌||◌, eqb, leb}
use Rattle.word.specs.Pointer.{pointer_end}

-- what number 1 is given for: "N outside 1 to 262,144"
unfoldable pub memory_size : (n : ℕ) → Bool
memory_size n = eqb n 0 || not (leb n pointer_end)
