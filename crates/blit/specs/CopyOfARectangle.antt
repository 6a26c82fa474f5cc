-- A copy of a whole rectangle, of any height, width and modulos: memory afterwards is memory before with A's words laid at
-- D's places in order, unless D lies on a word that A comes to two or more words later. One word later is fetched before
-- the store, and is copied. The words are numbered over all rows: after a row's last comes the next row's first.
use Rattle.std.specs.Prelude.{ℕ, ◌+◌, ◌*◌, ◌<◌, ◌≡◌, List, length, get_or}
use Rattle.word.specs.declared.types.Direction.{Direction}
use Rattle.word.specs.Word.{SixteenBits}
use Rattle.word.specs.Size.{height, width}
use Rattle.area.specs.Setup.{setup}
use Rattle.area.specs.Flow.{start}
use Rattle.quiet.specs.Stream.{at_a, at_d, laid_at}
use Rattle.refusal.specs.Refusal.{refusal}
use Rattle.blit.specs.Blit.{blit}
use Rattle.blit.specs.CopyOfOneRow.{Copies}

-- the word number where A fetches word k of all, and where D stores it, by the pointer's own moves
abbrev pub from_a : (file : List ℕ) → (size k : ℕ) → ℕ
from_a file size k = (at_a (setup file) (width size) (start file) k).word

abbrev pub to_d : (file : List ℕ) → (size k : ℕ) → ℕ
to_d file size k = (at_d (setup file) (width size) (start file) k).word

-- memory after the first so many words were copied, each to its place
pub record Copied (from to : ℕ → ℕ) (words : ℕ) (before after : List ℕ) : Type 0 where
  -- the words that stood at A, laid one after the other: of two at one place the later stays
  pub laid : after ≡ laid_at to (λ k. get_or before (from k) 0) words before
  -- where no two lie at one place, each is found where D stored it
  pub found : ((i j : ℕ) → i < words → j < i → to i ≡ to j → ⊥)
      → (k : ℕ) → k < words → get_or after (to k) 0 ≡ get_or before (from k) 0

abbrev pub CopyOfARectangle : Type 0
CopyOfARectangle =
    (direction : Direction) (memory file : List ℕ) (size : ℕ)
    → SixteenBits memory
    → Copies direction file
    → refusal (length memory) file size ≡ 0
    → ((i j : ℕ) → i < height size * width size → j + 1 < i → from_a file size i ≡ to_d file size j → ⊥)
    → Copied (from_a file size) (to_d file size) (height size * width size) memory (blit memory file size).memory
