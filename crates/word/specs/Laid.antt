-- Words, or whatever a run holds, laid into a lent run one after the other, from a place on; past its end nothing is
-- written.
use Rattle.std.specs.Prelude.{ℕ, ◌+◌, List, [], ◌∷◌, set}

unfoldable pub laid : {Word : Type 0} → (words : List Word) → (at : ℕ) → (run : List Word) → List Word
laid [] at run = run
laid (word ∷ rest) at run = laid rest (at + 1) (set run at word)
