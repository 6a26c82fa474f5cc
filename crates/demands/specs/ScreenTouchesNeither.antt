-- Paper 02, W7, of COPCON and the colours: "They touch neither a blit nor the folder's knowledge".
use Rattle.std.specs.Prelude.{ℕ, ◌<◌, ◌≤◌, ◌≡◌, List, length, set, Option}
use Rattle.file.specs.Places.{blitter_length, copcon, flag}
use Rattle.blit.specs.Blit.{Outcome, blit_step}
use Rattle.job.specs.declared.types.Step.{Step}
use Rattle.folder.specs.Fold.{learned}

-- an outcome with one word of its register file replaced
abbrev pub with_word : (place word : ℕ) → Outcome → Outcome
with_word place word end =
    record {
      number = end.number;
      stored = end.stored;
      round = end.round;
      memory = end.memory;
      file = set end.file place word;
    }

-- a blit on a file in which one of them is replaced gives and leaves what it does on the file as it was, with that one
-- replaced; and a write of one of them leaves the folder's knowledge as it was
pub record ScreenTouchesNeither : Type 0 where
  pub blit : (memory file : List ℕ) (size place word : ℕ)
      → copcon ≤ place
      → place < flag
      → blit_step memory (set file place word) size ≡ with_word place word (blit_step memory file size)
  pub knowledge : (n : ℕ) (known : List (Option ℕ)) (place word : ℕ)
      → length known ≡ blitter_length
      → copcon ≤ place
      → learned n known (Step.Register place word) ≡ known
