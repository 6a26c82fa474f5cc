-- One block is a blit of its rows: its words are those of the quiet blit.
use Rattle.std.specs.Prelude.{Option, if◌then◌else◌}
use Rattle.word.proofs.Base.{◌≡◌, refl, sym, ap, ◌∙◌, ℕ, zero, suc, ◌+◌, ◌-◌, ◌*◌, ◌<◌, ◌≤◌, mul-le-mul_right, sub-one, arith, Bool, true}
use Rattle.word.proofs.Base.{◌%◌, dec_lt, ◌&&◌, not, false, eqb, eq-eqb, ne_eqb, List, get_or}
use Rattle.word.specs.Choice.{every}
use Rattle.word.specs.Mask.{masked}
use Rattle.word.proofs.ChoiceLaws.{and_left}
use Rattle.area.specs.declared.types.Pending.{Pending}
use Rattle.area.specs.Flow.{state}
use Rattle.area.specs.Fetch.{fetched}
use Rattle.area.specs.Rows.{area_blit}
use Rattle.quiet.specs.Words.{word_before}
use Rattle.quiet.specs.Stream.{standing, standing_at, word_a, word_b, word_c, finals, final_word, laid_at}
use Rattle.quiet.specs.Quiet.{Unmet, Quiet, flow_after}
use Rattle.quiet.proofs.StreamLaws.{word_of}
use Rattle.quiet.proofs.QuietLaws.{quiet-blit}
use Rattle.block.specs.Inner.Place.{place_at, EvenRows}
use Rattle.block.proofs.PlaceLaws.{some-rows, last-of-rows, laid_at-same, as-lying-laid}
use Rattle.apart.specs.Inner.Apart.{Apart}
use Rattle.apart.proofs.PlacedLaws.{stride-lt, channel-place, channel-rows}
use Rattle.blocks.specs.Inner.Block.{Pointer, Sources, Earlier, Pointers, Setup, Flow, Strides, Size, Inputs, pointer_end, nothing}
use Rattle.blocks.specs.Inner.Block.{Channel, masked_at, at, Each, level_at, final_word_at, nought, Lies, AsLying, fetched_at}
use Rattle.blocks.specs.Inner.Block.{Masks, supplied_at, masking, source_of, Rested, Asked, Fits}
use Rattle.blocks.specs.Inner.MadeOf.{Stand, last_words, MadeOf, rows_on, pointers_on}

-- a choice where the ways that may be taken are the same
if-same : {Answer : Type 0} (test : Bool) (this that other : Answer) → (test ≡ true → this ≡ that) → (if test then this else other) ≡ (if test then that else other)
if-same true this that other same = same refl
if-same false this that other same = refl

module _ {n : ℕ} {setup : Setup} {size : Size} {flow : Flow} {far : Strides} (fits : Fits n setup size flow far)
    {modulo : ℕ} {used : Bool} {pointer : Pointer} {gap : ℕ} (channel : Channel n setup.direction size.width fits.left modulo used pointer gap) where
  -- how far its rows are apart, where its words lie, and where it stands after the block
  pub far_lt : gap < pointer_end
  far_lt = stride-lt _ _ _ _ _ _ _ _ channel fits.placed.most fits.placed.some fits.placed.narrow

  place_is : used ≡ true → (k : ℕ) → k < size.height * size.width
      → (standing_at setup.direction used size.width modulo pointer k).word ≡ place_at setup.direction size.width gap pointer.word k
  place_is uses k below =
      channel-place _ _ _ _ _ _ _ _ channel fits.placed.most fits.placed.some fits.placed.narrow uses k (omega (arith, mul-le-mul_right size.width fits.enough))

  rows_are : standing setup.direction used size.width modulo size.height 0 pointer ≡ rows_on used gap size.height pointer
  rows_are = channel-rows _ _ _ _ _ _ _ _ channel fits.placed.most fits.placed.some fits.placed.narrow size.height

  -- a channel's rows are a block's
  pub lies-of : used ≡ true → Lies n setup.direction gap pointer.word size
  unfolding EvenRows
  lies-of uses =
      record {
        inside = λ row below. channel.inside uses row (omega (arith, fits.enough));
        room = fits.room;
        some = fits.placed.some;
        starts = channel.small;
        strides = far_lt;
      }

  -- what is asked of a source
  pub asked : {need : Bool} {word : ℕ} {rows : Size} {over : (k word : ℕ) → ℕ} {words : List ℕ} → (Lies n setup.direction gap pointer.word size → AsLying n setup.direction gap pointer.word size rows)
      → Rested used size.width over word words → Asked n setup.direction (source_of used need pointer gap word rows) size over words
  asked lying rested = record { lies = λ uses. lying (lies-of uses); wide = fits.placed.some; some = fits.some; room = fits.room; rested = rested }

  pub sized : (n ≤ pointer_end) × (pointer.word < pointer_end) × (gap < pointer_end) × (1 ≤ size.height * size.width) × (size.height * size.width ≤ 64)
  sized = (fits.placed.most, channel.small, far_lt, fits.some, fits.room)

  -- its last row, where its last word alone is asked for
  pub last_row : (need : Bool) {rows : Size} → (Lies n setup.direction gap pointer.word size → AsLying n setup.direction gap pointer.word size rows)
      → (used && not need) ≡ true → Lies n setup.direction gap pointer.word rows × (1 ≤ rows.height)
  last_row need {rows} lying ignored =
      let here = lying (lies-of (and_left used (not need) ignored)) in
      (here.lies, some-rows rows.height rows.width (omega (arith, here.count, fits.some)))

  -- what it gives is what the blit fetches
  supplied-fetched : (memory : List ℕ) (need : Bool) (word k : ℕ) → k < size.height * size.width
      → supplied_at setup.direction size.width (source_of used need pointer gap word size) memory k ≡ fetched used memory (standing_at setup.direction used size.width modulo pointer k) word
  unfolding supplied_at fetched fetched_at
  supplied-fetched memory need word k below = if-same used _ _ word (λ uses. ap (λ (place : ℕ). get_or memory place 0) (sym (place_is uses k below)))

-- no fetch meets a store of the same block
pub fits-quiet : {n : ℕ} {setup : Setup} {size : Size} {flow : Flow} {far : Strides} → Fits n setup size flow far → Quiet setup size.width (size.height * size.width) flow
unfolding Quiet Apart Unmet
fits-quiet {size = size} fits =
    let all : size.height * size.width ≤ fits.left * size.width = mul-le-mul_right size.width fits.enough in (
      λ i j below early. fits.apart.a i j (omega arith) (omega arith) (omega (arith, fits.within)),
      λ i j below early. fits.apart.b i j (omega arith) (omega arith) (omega (arith, fits.within)),
      λ i j below early. fits.apart.c i j (omega arith) (omega arith) (omega (arith, fits.within)),
    )

-- a block made doesn't hang on the pointers after it, nor on how many words are stored
pub made-as : {setup : Setup} {size : Size} {far : Strides} {flow : Flow} {memory : List ℕ} {x : Inputs (List ℕ)} {o : List ℕ} {end : Flow} (pointers : Pointers) (stored : ℕ) (pending : Option Pending)
    → MadeOf setup size far flow memory x o end
    → MadeOf setup size far flow memory x o (record { pointers = pointers; sources = end.sources; earlier = end.earlier; carry = end.carry; allzero = end.allzero; stored = stored; pending = pending })
made-as pointers stored pending made = record { supplied = made.supplied; earlier = made.earlier; words = made.words; carry = made.carry; zero = made.zero }

-- the last of some words
before_last : (first : ℕ) (word : ℕ → ℕ) (n : ℕ) → 1 ≤ n → word_before first word n ≡ word (n - 1)
unfolding word_before
before_last first word zero none = absurd (omega arith)
before_last first word (suc k) some = ap word (sym (sub-one (suc k)))

-- the last word of so many rows is a row's last
last_is : (masks : Masks) (width rows word : ℕ) → 1 ≤ width → 1 ≤ rows * width → masking masks width (rows * width - 1) word ≡ masking masks width (width - 1) word
unfolding masked_at level_at
last_is masks width rows word some more =
    rw (
      word_of width (rows - 1) (width - 1) (rows * width - 1) (omega arith) (last-of-rows rows width (some-rows rows width more) some),
      word_of width 0 (width - 1) (width - 1) (omega arith) (omega arith),
    )

-- a row's last word masked: in a row of one it is the first too
pub last-masked : (setup : Setup) (width : ℕ) (sources : Sources) {a : ℕ} → 1 ≤ width → a ≡ masked (eqb width 1) true setup.masks.first setup.masks.last sources.a
    → ◌≡◌ {A = Earlier} (record { a = a; b = sources.b }) (last_words setup width sources)
unfolding masked_at level_at
last-masked setup width sources some is =
    let at : (width - 1) % width ≡ width - 1 = word_of width 0 (width - 1) (width - 1) (omega arith) (omega arith) in
    rw (is, at, eq-eqb (width - 1 + 1) width (omega arith), first (dec_lt 1 width))
  where
    first : Dec (1 < width) → eqb (width - 1) 0 ≡ eqb width 1
    first (yes more) = ne_eqb (width - 1) 0 (λ none. absurd (omega arith)) ∙ sym (ne_eqb width 1 (λ one. absurd (omega arith)))
    first (no less) = let one : width ≡ 1 = omega arith in rw one

pub same-sources : {a b c a' b' c' : ℕ} → a ≡ a' → b ≡ b' → c ≡ c' → ◌≡◌ {A = Sources} (record { a = a; b = b; c = c }) (record { a = a'; b = b'; c = c' })
same-sources first second third = rw (first, second, third)

same-earlier : {a b a' b' : ℕ} → a ≡ a' → b ≡ b' → ◌≡◌ {A = Earlier} (record { a = a; b = b }) (record { a = a'; b = b' })
same-earlier first second = rw (first, second)

module _ {n : ℕ} {setup : Setup} {size : Size} {far : Strides} {flow : Flow} {memory : List ℕ} {x : Inputs (List ℕ)} {o : List ℕ} {end : Flow} (fits : Fits n setup size flow far)
    (finished : MadeOf setup size far flow memory x o end) where
  abbrev count : ℕ
  count = size.height * size.width

  -- the sources by what they fetch
  stands : Stand setup size.width count x (word_a setup size.width memory flow) (word_b setup size.width memory flow) (word_c setup size.width memory flow)
  unfolding Each masked_at level_at word_a word_b word_c
  stands =
      record {
        of_a = λ need j below. finished.supplied.a.words need j below ∙ rw (supplied-fetched fits fits.placed.a memory _ flow.sources.a j below);
        of_b = λ need j below. finished.supplied.b.words need j below ∙ supplied-fetched fits fits.placed.b memory _ flow.sources.b j below;
        of_c = λ need j below. finished.supplied.c.words need j below ∙ supplied-fetched fits fits.placed.c memory _ flow.sources.c j below;
      }

  -- so the final words are the blit's
  final-here : (j : ℕ) → j < count → at o j ≡ final_word setup size.width memory flow j
  unfolding at Each final_word_at
  final-here = finished.words _ _ _ count (omega arith) stands

  nought-after : (k : ℕ) → k ≤ count → nought k (at o) ≡ every (λ k. eqb (final_word setup size.width memory flow k) 0) k
  unfolding nought
  nought-after zero below = refl
  nought-after (suc k) below = rw (final-here k (omega arith), nought-after k (omega arith))

  -- what is handed on
  sources-after : end.sources ≡ (flow_after setup size.width memory flow size.height).sources
  unfolding word_a word_b word_c
  sources-after =
      same-sources (finished.supplied.a.last ∙ supplied-fetched fits fits.placed.a memory _ flow.sources.a (count - 1) (omega (arith, fits.some)) ∙ sym (before_last _ _ count fits.some))
      (finished.supplied.b.last ∙ supplied-fetched fits fits.placed.b memory _ flow.sources.b (count - 1) (omega (arith, fits.some)) ∙ sym (before_last _ _ count fits.some))
      (finished.supplied.c.last ∙ supplied-fetched fits fits.placed.c memory _ flow.sources.c (count - 1) (omega (arith, fits.some)) ∙ sym (before_last _ _ count fits.some))

  earlier-after : end.earlier ≡ (flow_after setup size.width memory flow size.height).earlier
  unfolding masked_at level_at
  earlier-after =
      finished.earlier
      ∙ ap (last_words setup size.width) sources-after
      ∙ same-earlier {b = word_before flow.sources.b (word_b setup size.width memory flow) count}
      (sym (last_is setup.masks size.width size.height _ fits.placed.some fits.some)
      ∙ ap (masking setup.masks size.width (count - 1)) (before_last _ _ count fits.some)
      ∙ sym (before_last _ _ count fits.some))
      (before_last _ _ count fits.some ∙ sym (before_last _ _ count fits.some))

  pub block-is : {after : List ℕ} {pointers : Pointers} {stored : ℕ} {pending : Option Pending} {rows : Size}
      → (Lies n setup.direction far.d flow.pointers.d.word size → AsLying n setup.direction far.d flow.pointers.d.word size rows)
      → after ≡ (if setup.uses.d then laid_at (place_at setup.direction rows.width far.d flow.pointers.d.word) (at o) (rows.height * rows.width) memory else memory)
      → pointers ≡ pointers_on setup far size.height flow.pointers → stored ≡ flow.stored + (if setup.uses.d then count else 0) → pending ≡ nothing
      → state after (record { pointers = pointers; sources = end.sources; earlier = end.earlier; carry = end.carry; allzero = end.allzero; stored = stored; pending = pending })
      ≡ area_blit setup size.width size.height (state memory flow)
  block-is lying stores moves counts waits =
      rw (
        stores ∙ if-same setup.uses.d _ _ memory (λ uses. as-lying-laid (lying (lies-of fits fits.placed.d uses)) o memory ∙ laid_at-same _ _ _ _ count memory (λ i below. sym (place_is fits fits.placed.d uses i below)) final-here),
        moves,
        counts,
        waits,
        sources-after,
        earlier-after,
        finished.zero,
        nought-after count (omega arith),
        finished.carry _ _ _ stands ∙ sym (before_last flow.carry (λ k. (finals setup size.width memory flow k).carry) count fits.some),
        ← rows_are fits fits.placed.a,
        ← rows_are fits fits.placed.b,
        ← rows_are fits fits.placed.c,
        ← rows_are fits fits.placed.d,
      )
      (sym (quiet-blit setup size.width size.height memory flow fits.placed.some fits.placed.none (fits-quiet fits)))
