-- `file::colours_keep` meets its contract: it is told so far whether every colour keeps its bits.
use Rattle.word.proofs.Base.{◌≡◌, ℕ, ◌+◌, Bool, List}
use Rattle.word.specs.Choice.{every}
use Rattle.file.specs.Places.{colour0}
use Rattle.file.specs.File.{kept_at}
use Rattle.file.proofs.colours_keep.Given as goal

-- whether a colour keeps its bits
abbrev keeps : (file : List ℕ) (colour : ℕ) → Bool
keeps file colour = kept_at file (colour0 + colour)

abbrev pub invariant-loop-value : goal.invariant-loop-value
invariant-loop-value l = l.fine ≡ every (keeps l.file) l.value-index
