-- One block: what its sources give, and the arrays of those at rest, which are laid once a blit.
use Rattle.std.specs.Prelude.{ℕ, ◌-◌, ◌*◌, ◌≤◌, ◌≡◌, Bool, true, false, ◌&&◌, not, List, if◌then◌else◌, Option, Some, None}
pub use Rattle.area.specs.declared.types.Masks.{Masks}
pub use Rattle.area.specs.Types.{Earlier, Pointers, Sources}
unfoldable pub use Rattle.quiet.specs.Words.{masked_at}
unfoldable pub use Rattle.block.specs.Inner.Each.{at, Each, level_at, final_word_at, nought}
pub use Rattle.block.specs.Inner.Place.{Lies, AsLying}
unfoldable pub use Rattle.block.specs.Inner.Place.{row_at, fetched_at}
pub use Rattle.block.specs.Inner.Types.{Needs}
pub use Rattle.block.specs.Inner.Ignores.{needed}
pub use Rattle.apart.specs.Inner.Placed.{Direction, Pointer, Setup, Flow, pointer_end, nothing, Channel, Placed}
pub use Rattle.apart.specs.Inner.Apart.{AllApart}
pub use Rattle.apart.specs.Inner.Types.{Strides}
pub use Rattle.apart.specs.Inner.Spans.{Size}
pub use Rattle.blocks.specs.declared.types.Source.{Source}
pub use Rattle.word.specs.declared.types.Inputs.{Inputs}

-- word k of a source: fetched where it is used, else the word that it gives at rest
unfoldable pub supplied_at : Direction → (width : ℕ) → Source → (memory : List ℕ) → (k : ℕ) → ℕ
supplied_at direction width source memory k =
    if source.used then fetched_at direction width source.course.far source.course.from memory k else
    source.word

-- word k as it stands in an array: as it is, or masked, as A's are
abbrev pub plain : (k word : ℕ) → ℕ
plain k word = word

abbrev pub masking : Masks → (width k word : ℕ) → ℕ
masking masks width k word = masked_at masks width (level_at word) k

-- A's are masked
abbrev pub over_by : Option Masks → (width k word : ℕ) → ℕ
over_by None width k word = word
over_by (Some masks) width k word = masking masks width k word

-- where a source isn't used its word stands in its array, in as many whole rows as a block has
pub record Rested (used : Bool) (width : ℕ) (over : (k word : ℕ) → ℕ) (word : ℕ) (words : List ℕ) : Type 0 where
  pub level : used ≡ false → (rows : ℕ) → rows * width ≤ 64 → Each (rows * width) words (λ k. over k word)

-- a source can give a block's words
pub record Asked (n : ℕ) (direction : Direction) (source : Source) (size : Size) (over : (k word : ℕ) → ℕ) (words : List ℕ) : Type 0 where
  pub lies : source.used ≡ true → AsLying n direction source.course.far source.course.from size source.rows
  pub wide : 1 ≤ size.width
  pub some : 1 ≤ size.height * size.width
  pub room : size.height * size.width ≤ 64
  pub rested : Rested source.used size.width over source.word words

-- it gave them, where the function needs them; the last is told, and at rest it gives that again
pub record Given (direction : Direction) (source : Source) (size : Size) (memory : List ℕ) (over : (k word : ℕ) → ℕ) (x : List ℕ) (told : ℕ) : Type 0 where
  pub words : source.need ≡ true → Each (size.height * size.width) x (λ k. over k (supplied_at direction size.width source memory k))
  pub last : told ≡ supplied_at direction size.width source memory (size.height * size.width - 1)
  pub rested : Rested source.used size.width over told x

abbrev pub source_of : (used need : Bool) → Pointer → (far word : ℕ) → (rows : Size) → Source
source_of used need pointer far word rows =
    record { used = used; need = need; course = record { from = pointer.word; far = far }; word = word; rows = rows }

-- the last word: the one told, but of a source that the function ignores the one that it would fetch last
abbrev pub last_of : Direction → Source → (memory : List ℕ) → (told : ℕ) → ℕ
last_of direction source memory told =
    if source.used && not source.need then
    fetched_at direction source.rows.width source.course.far source.course.from memory (source.rows.height * source.rows.width - 1) else
    told

-- all three sources
pub record AllRest (setup : Setup) (width : ℕ) (sources : Sources) (x : Inputs (List ℕ)) : Type 0 where
  pub a : Rested setup.uses.a width (masking setup.masks width) sources.a x.a
  pub b : Rested setup.uses.b width plain sources.b x.b
  pub c : Rested setup.uses.c width plain sources.c x.c

pub record Supplied (setup : Setup) (size : Size) (far : Strides) (flow : Flow) (memory : List ℕ) (x : Inputs (List ℕ)) (last : Sources) : Type 0 where
  pub a : Given setup.direction (source_of setup.uses.a (needed setup.function).a flow.pointers.a far.a flow.sources.a size) size memory (masking setup.masks size.width) x.a last.a
  pub b : Given setup.direction (source_of setup.uses.b (needed setup.function).b flow.pointers.b far.b flow.sources.b size) size memory plain x.b last.b
  pub c : Given setup.direction (source_of setup.uses.c (needed setup.function).c flow.pointers.c far.c flow.sources.c size) size memory plain x.c last.c

-- a block can be done at once: it has few enough words, and is the next of the rows that are left
pub record Fits (n : ℕ) (setup : Setup) (size : Size) (flow : Flow) (far : Strides) : Type 0 where
  pub some : 1 ≤ size.height * size.width
  pub room : size.height * size.width ≤ 64
  pub few : size.height ≤ 64
  pub left : ℕ
  pub enough : size.height ≤ left
  pub placed : Placed n setup size.width left flow far
  pub span : ℕ
  pub within : size.height * size.width ≤ span
  pub apart : AllApart setup size.width span (left * size.width) flow
