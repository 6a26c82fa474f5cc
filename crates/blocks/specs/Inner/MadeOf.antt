-- The words of a block made of what its sources give, and what it hands on.
use Rattle.std.specs.Prelude.{ℕ, ◌-◌, ◌*◌, ◌≤◌, ◌≡◌, Bool, true, ◌&&◌, List, if◌then◌else◌}
use Rattle.area.specs.Types.{Earlier, Pointers}
use Rattle.quiet.specs.Words.{masked_at, final_at}
use Rattle.block.specs.Inner.Each.{at, Each, final_word_at, nought}
use Rattle.block.specs.Inner.Place.{row_at}
use Rattle.apart.specs.Inner.Placed.{Pointer, Setup, Flow}
use Rattle.apart.specs.Inner.Types.{Strides}
use Rattle.apart.specs.Inner.Spans.{Size}
use Rattle.blocks.specs.Inner.Block.{Inputs, Sources, needed, masking, Supplied}

-- the first n words of the sources that the function needs stand in arrays, A's masked
pub record Stand (setup : Setup) (width n : ℕ) (x : Inputs (List ℕ)) (a b c : ℕ → ℕ) : Type 0 where
  pub of_a : (needed setup.function).a ≡ true → Each n x.a (masked_at setup.masks width a)
  pub of_b : (needed setup.function).b ≡ true → Each n x.b b
  pub of_c : (needed setup.function).c ≡ true → Each n x.c c

-- their final words stand in another, whatever they are and so far as they are given, and the last carry is told
abbrev pub FinalWords : Setup → (width n : ℕ) → Earlier → Inputs (List ℕ) → (o : List ℕ) → Type 0
FinalWords setup width n earlier x o =
    (a b c : ℕ → ℕ) (i : ℕ) → i ≤ n → Stand setup width i x a b c → Each i o (final_word_at setup width earlier a b c)

abbrev pub FinalCarry : Setup → (width n : ℕ) → Earlier → Inputs (List ℕ) → (carry : ℕ) → Type 0
FinalCarry setup width n earlier x carry =
    (a b c : ℕ → ℕ) → Stand setup width n x a b c → carry ≡ (final_at setup width earlier a b c (n - 1)).carry

-- the last words of a row, which the next block has before it
abbrev pub last_words : Setup → (width : ℕ) → Sources → Earlier
last_words setup width sources = record { a = masking setup.masks width (width - 1) sources.a; b = sources.b }

-- the words of a block made, with what it hands on
pub record MadeOf (setup : Setup) (size : Size) (far : Strides) (flow : Flow) (memory : List ℕ) (x : Inputs (List ℕ)) (o : List ℕ) (end : Flow) : Type 0 where
  pub supplied : Supplied setup size far flow memory x end.sources
  pub earlier : end.earlier ≡ last_words setup size.width end.sources
  pub words : FinalWords setup size.width (size.height * size.width) flow.earlier x o
  pub carry : FinalCarry setup size.width (size.height * size.width) flow.earlier x end.carry
  pub zero : end.allzero ≡ (flow.allzero && nought (size.height * size.width) (at o))

-- a channel's pointer so many rows on, and all four
abbrev pub rows_on : (used : Bool) → (far rows : ℕ) → Pointer → Pointer
rows_on used far rows pointer = if used then record { word = row_at far pointer.word rows } else pointer

abbrev pub pointers_on : Setup → Strides → (rows : ℕ) → Pointers → Pointers
pointers_on setup far rows at =
    record {
      a = rows_on setup.uses.a far.a rows at.a;
      b = rows_on setup.uses.b far.b rows at.b;
      c = rows_on setup.uses.c far.c rows at.c;
      d = rows_on setup.uses.d far.d rows at.d;
    }
