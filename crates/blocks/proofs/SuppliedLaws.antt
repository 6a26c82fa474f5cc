-- Laws of what a source gives as a block's words, fetched or at rest.
use Rattle.word.proofs.Base.{◌≡◌, sym, ap, ◌∙◌, ℕ, ◌-◌, ◌*◌, ◌/◌, ◌%◌, ◌≤◌, mul-le-mul_right, arith, Bool, true, false, ◌&&◌, not, List}
use Rattle.word.proofs.Base.{get_or, bit_and}
use native.Mathlib.Nat.{le-div_iff_mul-le}
use Rattle.word.specs.Mask.{masked_when, masked}
use Rattle.word.proofs.ChoiceLaws.{and_left, and_right}
use Rattle.block.proofs.EachLaws.{never}
use Rattle.block.proofs.PlaceLaws.{as-lying-fetched}
use Rattle.blocks.specs.Inner.Block.{Masks, Direction, Pointer, Size, Source, masked_at, at, Each, level_at, fetched_at}
use Rattle.blocks.specs.Inner.Block.{supplied_at, plain, masking, Rested, Asked, Given, source_of, last_of}

-- the array of a source that is used, or laid with its word
pub rested-used : {used : Bool} {width : ℕ} {over : (k word : ℕ) → ℕ} {word : ℕ} {words : List ℕ} → used ≡ true → Rested used width over word words
rested-used uses = record { level = λ idle. never (sym uses ∙ idle) }

module _ {used : Bool} {width word : ℕ} {after : List ℕ} where
  pub rested-level : Each 64 after (level_at word) → Rested used width plain word after
  unfolding Each level_at
  rested-level all = record { level = λ idle rows room j below. all j (omega arith) }

  pub rested-masked : (masks : Masks) (words : List ℕ) → 1 ≤ width → Each 64 words (level_at word)
      → Each (64 / width * width) after (masked_at masks width (at words)) → Rested used width (masking masks width) word after
  unfolding Each masked_at at level_at
  rested-masked masks words some all masking-is = record { level = level }
    where
      level : used ≡ false → (rows : ℕ) → rows * width ≤ 64 → Each (rows * width) after (λ k. masking masks width k word)
      level idle rows room j below =
          let few : rows * width ≤ 64 / width * width = mul-le-mul_right width ((le-div_iff_mul-le {k = width} {x = rows} {y = 64} some).1 room) in
          masking-is j (omega arith) ∙ rw (all j (omega arith))

  -- in rows of one word both masks go to each
  pub rested-in-columns : (masks : Masks) → width ≡ 1 → Each 64 after (level_at (bit_and (bit_and word masks.first) masks.last))
      → Rested used width (masking masks width) word after
  unfolding Each masked_at level_at masked masked_when
  rested-in-columns masks one all =
      record { level = λ idle rows room j below. let first : j % width ≡ 0 = rw one (omega arith) in all j (omega arith) ∙ rw (first, one) }

-- the last word is the one told, but for a source that the function ignores
last-kept : (direction : Direction) (source : Source) (memory : List ℕ) (told : ℕ) → (source.used && not source.need) ≡ false → last_of direction source memory told ≡ told
last-kept direction source memory told heeded = rw heeded

-- what a source gives: fetched, or at rest, or, where the function ignores it, the last word alone
module _ {direction : Direction} {source : Source} {size : Size} {memory : List ℕ} {over : (k word : ℕ) → ℕ} where
  pub given-idle : {words : List ℕ} → source.used ≡ false → size.height * size.width ≤ 64 → Rested source.used size.width over source.word words
      → Given direction source size memory over words source.word
  unfolding Each supplied_at
  given-idle idle room rested = record { words = λ _ j below. rw idle (rested.level idle size.height room j below); last = rw idle; rested = rested }

  pub given-unfetched : {n : ℕ} {words : List ℕ} (used need : Bool) → source.used ≡ used → source.need ≡ need → (used && need) ≡ false → Asked n direction source size over words
      → Given direction source size memory over words (last_of direction source memory source.word)
  unfolding supplied_at fetched_at
  given-unfetched true true uses needs none asked = never none
  given-unfetched true false uses ignores none asked =
      let lying = asked.lies uses in
      record {
        words = λ told. never (sym told ∙ ignores);
        last = rw (uses, ignores, lying.count) (ap (λ (place : ℕ). get_or memory place 0) (lying.same (size.height * size.width - 1) (omega (arith, asked.some))));
        rested = rested-used uses;
      }
  given-unfetched false need idle needs none asked = rw (last-kept direction source memory source.word (rw idle)) (given-idle idle asked.room asked.rested)

  pub given-fetched : {n : ℕ} (words : List ℕ) {before after : List ℕ} → (source.used && source.need) ≡ true → Asked n direction source size over before
      → Each (source.rows.height * source.rows.width) words (fetched_at direction source.rows.width source.course.far source.course.from memory)
      → Each (size.height * size.width) after (λ k. over k (at words k))
      → Given direction source size memory over after (last_of direction source memory (get_or words (size.height * size.width - 1) 0))
  unfolding Each supplied_at at
  given-fetched words both asked fetches stand =
      let uses = and_left source.used source.need both in
      let here = as-lying-fetched (asked.lies uses) words memory fetches in
      rw (last-kept direction source memory (get_or words (size.height * size.width - 1) 0) (rw (uses, and_right source.used source.need both)))
      (record {
        words = λ _ j below. stand j below ∙ rw (uses, here j below);
        last = rw uses (here (size.height * size.width - 1) (omega (arith, asked.some)));
        rested = rested-used uses;
      })

  pub given-kept : {x : List ℕ} (told : ℕ) → (source.used && not source.need) ≡ false → Given direction source size memory over x (last_of direction source memory told)
      → Given direction source size memory over x told
  given-kept told heeded given = rw (last-kept direction source memory told heeded) at given

-- however its rows are counted
pub given-as : {direction : Direction} {used need : Bool} {pointer : Pointer} {far word : ℕ} (rows : Size) {size : Size} {memory : List ℕ} {over : (k word : ℕ) → ℕ} {x : List ℕ} {told : ℕ}
    → Given direction (source_of used need pointer far word rows) size memory over x told → Given direction (source_of used need pointer far word size) size memory over x told
unfolding supplied_at
given-as rows given = record { words = given.words; last = given.last; rested = given.rested }
