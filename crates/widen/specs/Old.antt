-- Paper 02, W7: the register file as it was before: 20 words, "the first 19" and then the zero flag.
use Rattle.std.specs.Prelude.{ℕ, Bool, ◌&&◌, List, eqb, leb, length, get_or}
use Rattle.word.specs.Choice.{every}
use Rattle.file.specs.Places.{blitter_length}
use Rattle.file.specs.File.{kept_at}

abbrev pub old_length : ℕ
old_length = 20

abbrev pub old_flag : ℕ
old_flag = 19

-- "the old rule for the old file": 2 is given for one "not 20 words, or a bit set that isn't kept". The first 19 words keep
-- the bits that they keep in a new file; the flag is "0 or 1"
unfoldable pub old_accepted : (old : List ℕ) → Bool
old_accepted old =
    eqb (length old) old_length
    && every (kept_at old) blitter_length
    && leb (get_or old old_flag 0) 1
