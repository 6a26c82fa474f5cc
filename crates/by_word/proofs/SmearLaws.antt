-- Laws of a smear: its words are those of the blit, each found when A comes to it.
use Rattle.std.specs.Prelude.{if◌then◌else◌}
use Rattle.word.proofs.Base.{◌≡◌, refl, sym, ap, ◌∙◌, ℕ, zero, suc, ◌+◌, ◌-◌, ◌*◌, ◌%◌, ◌<◌, ◌≤◌, add-one, sub-one, dec_lt, arith}
use Rattle.word.proofs.Base.{Bool, true, false, ◌&&◌, eqb, List, get_or, set, get_or-set_other}
use Rattle.word.proofs.Base.{suc-mul, mul-le-mul, mul-le-mul_right, ◌||◌, not, ltb, eqb-true, eqb-false, not-false}
use borrow.Author.Tests.{ltb-false}
use Rattle.word.specs.declared.types.Direction.{Direction}
use Rattle.word.specs.declared.types.Direction.TheVariants.{Ascending}
use Rattle.word.specs.declared.types.Fill.{Fill}
use Rattle.word.specs.declared.types.Fill.TheVariants.{Off}
use Rattle.word.specs.declared.types.Filled.{Filled}
use Rattle.word.specs.declared.types.Pointer.{Pointer}
use Rattle.word.specs.Fill.{filled}
use Rattle.word.specs.Logic.{logic}
use Rattle.word.specs.Mask.{masked}
use Rattle.word.specs.Pointer.{pointer_end}
use Rattle.word.specs.Shift.{shifted}
use Rattle.word.specs.Inner.Even.{RowInside}
use Rattle.word.proofs.MaskLaws.{masked-by-ones}
use Rattle.word.specs.Choice.{every}
use Rattle.word.proofs.ChoiceLaws.{if-when-true, or_left, or_right, every-turn}
use Rattle.area.specs.declared.types.Setup.{Setup}
use Rattle.area.specs.declared.types.Flow.{Flow}
use Rattle.area.specs.Flow.{state, nothing}
use Rattle.area.specs.Fetch.{fetched}
use Rattle.area.specs.Rows.{area_blit}
use Rattle.quiet.specs.Words.{word_before, masked_at, shifted_at, mixed_at, filled_at, result_at, final_at}
use Rattle.quiet.specs.Stream.{standing, at_a, at_d, laid_at}
use Rattle.quiet.specs.Quiet.{memory_of, flow_of, Found}
use Rattle.quiet.proofs.QuietLaws.{found-blit}
use Rattle.block.specs.Inner.Types.{Needs}
use Rattle.block.specs.declared.types.Size.{Size}
use Rattle.block.specs.Inner.Ignores.{Ignores, needed}
use Rattle.block.specs.Inner.Place.{row_at, place_in, place_at, EvenRows, Gapless}
use Rattle.block.specs.Inner.Terms.{terms}
use Rattle.block.proofs.MixLaws.{joined-is-logic, joined-of-a, ignores-of}
use Rattle.block.proofs.PlaceLaws.{row_at-gapless, place_at-gapless}
use Rattle.block.proofs.FillLaws.{carry-of-off}
use Rattle.apart.specs.Inner.Placed.{Channel}
use Rattle.apart.specs.Inner.Spans.{Known}
use Rattle.apart.proofs.PlacedLaws.{channel-place, channel-rows}
use Rattle.apart.specs.Inner.Types.{Strides}
use Rattle.by_word.specs.Inner.Smear.{Alone, Smearing, smeared_word, Smear, smeared_to, fetched_word, made_word, SmearedBy}

-- what the test tells
pub alone_of : (setup : Setup) (need : Needs) → need ≡ needed setup.function → (((setup.uses.b || setup.uses.c) || need.b) || need.c) ≡ false
    → (((not setup.uses.a || not setup.uses.d) || not (eqb setup.masks.first 65535)) || not (eqb setup.masks.last 65535)) ≡ false
    → setup.direction ≡ Ascending → setup.fill ≡ Off → Alone setup
alone_of setup need is others plain up none =
    let ignores : Ignores setup.function need = rw is (ignores-of setup.function) in
    let three = or_left _ need.c others in
    let two = or_left _ need.b three in
    let ones = or_left _ (not (eqb setup.masks.last 65535)) plain in
    let used = or_left _ (not (eqb setup.masks.first 65535)) ones in
    record {
      a = not-false _ (or_left _ (not setup.uses.d) used);
      b = or_left _ setup.uses.c two;
      c = or_right setup.uses.b _ two;
      d = not-false _ (or_right (not setup.uses.a) _ used);
      function = λ a b c. ignores.b (or_right (setup.uses.b || setup.uses.c) _ three) a 0 b 0 ∙ ignores.c (or_right ((setup.uses.b || setup.uses.c) || need.b) _ others) a b 0 c;
      first = eqb-true _ _ (not-false _ (or_right (not setup.uses.a || not setup.uses.d) _ ones));
      last = eqb-true _ _ (not-false _ (or_right ((not setup.uses.a || not setup.uses.d) || not (eqb setup.masks.first 65535)) _ plain));
      upward = up;
      off = none;
    }

pub smearing-of : (n one : ℕ) (setup : Setup) (size : Size) (flow : Flow) (far : Strides) → one ≡ flow.pointers.a.word + 1 → Alone setup
    → (not (eqb far.a size.width) || not (eqb far.d size.width)) ≡ false
    → ((ltb n (flow.pointers.a.word + size.height * size.width) || ltb n (flow.pointers.d.word + size.height * size.width))
    || eqb flow.pointers.d.word one) ≡ false → Smearing n setup size flow far
smearing-of n one setup size flow far next alone follow inside =
    let both = or_left _ (eqb flow.pointers.d.word one) inside in
    record {
      alone = alone;
      far_a = eqb-true _ _ (not-false _ (or_left _ (not (eqb far.d size.width)) follow));
      far_d = eqb-true _ _ (not-false _ (or_right (not (eqb far.a size.width)) _ follow));
      inside_a = ltb-false _ _ (or_left _ (ltb n (flow.pointers.d.word + size.height * size.width)) both);
      inside_d = ltb-false _ _ (or_right (ltb n (flow.pointers.a.word + size.height * size.width)) _ both);
      ahead = λ same. eqb-false _ _ (or_right (ltb n (flow.pointers.a.word + size.height * size.width) || ltb n (flow.pointers.d.word + size.height * size.width)) _ inside) (same ∙ sym next);
    }

-- word after word
module _ (make : ℕ → ℕ → ℕ) (a d : ℕ) (memory : List ℕ) (earlier : ℕ) where
  pub smeared-none : SmearedBy make a d 0 earlier memory memory earlier true
  unfolding smeared_to
  smeared-none = record { memory_is = refl; last_is = refl; nought_is = refl; words = λ k below. absurd (omega arith) }

  pub smeared-turn : (i made last : ℕ) (nought : Bool) (now : List ℕ) → made ≡ make last (get_or now (a + i) 0) → get_or now (a + i) 0 < 65536
      → SmearedBy make a d i earlier memory now last nought
      → SmearedBy make a d (i + 1) earlier memory (set now (d + i) made) (get_or now (a + i) 0) (eqb made 0 && nought)
  unfolding smeared_to
  smeared-turn i made last nought now is small so_far =
      record {
        memory_is = rw (add-one, is, so_far.last_is, so_far.memory_is);
        last_is = rw (add-one, so_far.memory_is);
        nought_is = every-turn (λ k. eqb (made_word make a d memory earlier k) 0) i (eqb made 0) nought (rw (is, so_far.last_is, so_far.memory_is)) so_far.nought_is;
        words = λ k below. at k below (dec_lt k i);
      }
    where
      at : (k : ℕ) → k < i + 1 → Dec (k < i) → fetched_word make a d memory earlier k < 65536
      at k below (yes early) = so_far.words k early
      at k below (no late) = let here : k ≡ i = omega arith in rw (here, ← so_far.memory_is) small

  pub smeared-done : (i n last : ℕ) (nought : Bool) (now : List ℕ) → i ≤ n → n ≤ i → SmearedBy make a d i earlier memory now last nought
      → SmearedBy make a d n earlier memory now last nought
  smeared-done i n last nought now most least so_far = let all : i ≡ n = omega arith in rw (← all) so_far

-- rows that follow on one another
module _ (direction : Direction) (n width height far from : ℕ) (up : direction ≡ Ascending) (follow : far ≡ width) (inside : from + height * width ≤ n) (most : n ≤ pointer_end) (some : 1 ≤ width) where
  gapless : Gapless n Ascending width far from (height * width)
  unfolding Gapless
  gapless = (follow, inside)

  run_inside : EvenRows n direction width far from height
  unfolding EvenRows RowInside place_in
  run_inside row below =
      let fits : suc row * width ≤ height * width = mul-le-mul_right width below in
      rw (up, row_at-gapless n Ascending width far from (height * width) row most (omega (arith, suc-mul row width)) gapless (omega (arith, suc-mul row width)))
      (omega (arith, suc-mul row width))

  run-place : (k : ℕ) → k < height * width → place_at direction width far from k ≡ from + k
  unfolding place_in
  run-place k below = rw up (place_at-gapless n Ascending width far from (height * width) k most (omega arith) gapless below)

-- a word of a smear, over plain numbers
masked-none : (first last : Bool) (one other word : ℕ) → one ≡ 65535 → other ≡ 65535 → word < 65536 → masked first last one other word ≡ word
masked-none first last one other word ones all small = rw (ones, all) (masked-by-ones first last word small)

smeared-is-final : (fill : Fill) (direction : Direction) (carry f by before this b c earlier word : ℕ) → fill ≡ Off → direction ≡ Ascending
    → ((a b c : ℕ) → logic f a 0 0 ≡ logic f a b c) → before ≡ earlier → this ≡ word
    → (filled fill carry (logic f (shifted direction by before this) b c)).word ≡ smeared_word (terms f) by earlier word
unfolding filled smeared_word
smeared-is-final fill direction carry f by before this b c earlier word off up alone first second =
    rw (off, up, first, second)
    (sym (alone (shifted Ascending by earlier word) b c) ∙ sym (joined-is-logic f (shifted Ascending by earlier word) 0 0) ∙ sym (joined-of-a (terms f) (shifted Ascending by earlier word)))

fetched-of-used : (used : Bool) (memory : List ℕ) (pointer : Pointer) (source : ℕ) → used ≡ true → fetched used memory pointer source ≡ get_or memory pointer.word 0
unfolding fetched
fetched-of-used used memory pointer source uses = rw uses

-- a source at rest
rests : (used : Bool) (memory : List ℕ) (pointer : Pointer) (source k : ℕ) → used ≡ false → fetched used memory pointer (word_before source (λ _. source) k) ≡ source
unfolding fetched word_before
rests used memory pointer source k idle = rw idle (before_same source k)
  where
    before_same : (source k : ℕ) → word_before source (λ _. source) k ≡ source
    before_same source zero = refl
    before_same source (suc k) = refl

last_of : (first : ℕ) (word : ℕ → ℕ) (n last : ℕ) → 1 ≤ n → ((k : ℕ) → suc k ≡ n → word k ≡ last) → word_before first word n ≡ last
unfolding word_before
last_of first word zero last some is = absurd (omega arith)
last_of first word (suc k) last some is = is k refl

every-alike : (test same : ℕ → Bool) (n : ℕ) → ((k : ℕ) → k < n → test k ≡ same k) → every test n ≡ every same n
every-alike test same zero alike = refl
every-alike test same (suc n) alike = rw (alike n (omega arith), every-alike test same n (λ k below. alike k (omega arith)))

-- a pointer so many rows on
pointer-on : (used : Bool) (far width from height : ℕ) (pointer : Pointer) → used ≡ true → far ≡ width
    → (if used then record { word = row_at far from height } else pointer) ≡ record { word = (from + height * width) % pointer_end }
unfolding row_at
pointer-on used far width from height pointer uses follow = rw (uses, follow)

pointer-stays : (direction : Direction) (used : Bool) (width modulo row : ℕ) (pointer : Pointer) → used ≡ false → standing direction used width modulo row 0 pointer ≡ pointer
unfolding standing
pointer-stays direction used width modulo row pointer idle = rw idle

module _ (n : ℕ) (setup : Setup) (size : Size) (flow : Flow) (far : Strides) (memory after : List ℕ) (last : ℕ) (nought : Bool)
    (known : Known n setup size flow far) (smears : Smearing n setup size flow far)
    (does : SmearedBy (smeared_word (terms setup.function) setup.shifts.a) flow.pointers.a.word flow.pointers.d.word (size.height * size.width) flow.earlier.a memory after last nought) where
  abbrev words : ℕ
  words = size.height * size.width

  abbrev now : (k : ℕ) → Smear
  now = smeared_to (smeared_word (terms setup.function) setup.shifts.a) flow.pointers.a.word flow.pointers.d.word memory flow.earlier.a

  abbrev word_of_a : (k : ℕ) → ℕ
  word_of_a k = get_or (now k).memory (flow.pointers.a.word + k) 0

  abbrev made : (k : ℕ) → ℕ
  made k = smeared_word (terms setup.function) setup.shifts.a (now k).before (word_of_a k)

  abbrev final : (k : ℕ) → Filled
  final = final_at setup size.width flow.earlier word_of_a (λ _. flow.sources.b) (λ _. flow.sources.c)

  some_words : 1 ≤ words
  some_words = omega (arith, mul-le-mul known.sized.rows known.sized.some)

  -- where A fetches and D stores
  channel-a : Channel n setup.direction size.width size.height setup.modulos.a setup.uses.a flow.pointers.a far.a
  channel-a = record { stride = known.even.a.0; small = known.a; inside = λ _. run_inside setup.direction n size.width size.height far.a flow.pointers.a.word smears.alone.upward smears.far_a smears.inside_a known.sized.most known.sized.some }

  channel-d : Channel n setup.direction size.width size.height setup.modulos.d setup.uses.d flow.pointers.d far.d
  channel-d = record { stride = known.even.d.0; small = known.d; inside = λ _. run_inside setup.direction n size.width size.height far.d flow.pointers.d.word smears.alone.upward smears.far_d smears.inside_d known.sized.most known.sized.some }

  a_at : (k : ℕ) → k < words → (at_a setup size.width flow k).word ≡ flow.pointers.a.word + k
  a_at k below =
      channel-place n setup.direction size.width size.height setup.modulos.a setup.uses.a flow.pointers.a far.a channel-a known.sized.most known.sized.some known.sized.narrow smears.alone.a k below
      ∙ run-place setup.direction n size.width size.height far.a flow.pointers.a.word smears.alone.upward smears.far_a smears.inside_a known.sized.most known.sized.some k below

  at-d : (k : ℕ) → k < words → (at_d setup size.width flow k).word ≡ flow.pointers.d.word + k
  at-d k below =
      channel-place n setup.direction size.width size.height setup.modulos.d setup.uses.d flow.pointers.d far.d channel-d known.sized.most known.sized.some known.sized.narrow smears.alone.d k below
      ∙ run-place setup.direction n size.width size.height far.d flow.pointers.d.word smears.alone.upward smears.far_d smears.inside_d known.sized.most known.sized.some k below

  -- the blit's words are the smear's
  masks-none : (k : ℕ) → k < words → masked_at setup.masks size.width word_of_a k ≡ word_of_a k
  unfolding masked_at
  masks-none k below = masked-none _ _ setup.masks.first setup.masks.last (word_of_a k) smears.alone.first smears.alone.last (does.words k below)

  before-is : (k : ℕ) → k ≤ words → word_before flow.earlier.a (masked_at setup.masks size.width word_of_a) k ≡ (now k).before
  unfolding word_before smeared_to
  before-is zero below = refl
  before-is (suc k) below = masks-none k (omega arith)

  final-is : (k : ℕ) → k < words → (final k).word ≡ made k
  unfolding filled_at result_at mixed_at shifted_at
  final-is k below =
      smeared-is-final setup.fill setup.direction _ setup.function setup.shifts.a _ _ _ _ _ _ smears.alone.off smears.alone.upward smears.alone.function
      (before-is k (omega arith)) (masks-none k below)

  laid-is : (k : ℕ) → k ≤ words → laid_at (λ k. (at_d setup size.width flow k).word) (λ k. (final k).word) k memory ≡ (now k).memory
  unfolding laid_at smeared_to
  laid-is zero below = refl
  laid-is (suc k) below = rw (laid-is k (omega arith), at-d k (omega arith), final-is k (omega arith))

  memory_is : (k : ℕ) → k ≤ words → memory_of setup size.width flow word_of_a (λ _. flow.sources.b) (λ _. flow.sources.c) memory k ≡ (now k).memory
  memory_is k below = sym (if-when-true setup.uses.d _ _ _ smears.alone.d (sym (laid-is k below)))

  -- A comes to a word after D's but one are laid
  elsewhere : (k : ℕ) → get_or (now (k - 1)).memory (flow.pointers.a.word + k) 0 ≡ word_of_a k
  unfolding smeared_to
  elsewhere zero = refl
  elsewhere (suc k) =
      ap (λ (j : ℕ). get_or (now j).memory (flow.pointers.a.word + suc k) 0) (sub-one (suc k))
      ∙ sym (get_or-set_other (now k).memory (flow.pointers.d.word + k) (flow.pointers.a.word + suc k) _ 0 (λ same. smears.ahead (omega arith)))

  found : Found setup size.width flow word_of_a (λ _. flow.sources.b) (λ _. flow.sources.c) memory words
  found =
      record {
        of_a = λ k below.
            fetched-of-used setup.uses.a _ _ _ smears.alone.a
            ∙ rw (memory_is (k - 1) (omega arith), a_at k below) (elsewhere k);
        of_b = λ k below. rests setup.uses.b _ _ flow.sources.b k smears.alone.b;
        of_c = λ k below. rests setup.uses.c _ _ flow.sources.c k smears.alone.c;
      }

  -- what it hands on
  last_is : (k : ℕ) → suc k ≡ words → word_of_a k ≡ last
  unfolding smeared_to
  last_is k is = ap (λ (all : ℕ). (now all).before) is ∙ sym does.last_is

  abbrev pub handed_on : Flow
  handed_on =
      record {
        pointers =
            record {
              a = record { word = (flow.pointers.a.word + words) % pointer_end };
              b = flow.pointers.b;
              c = flow.pointers.c;
              d = record { word = (flow.pointers.d.word + words) % pointer_end };
            };
        sources = record { a = last; b = flow.sources.b; c = flow.sources.c };
        earlier = record { a = last; b = flow.sources.b };
        carry = setup.carry;
        allzero = flow.allzero && nought;
        stored = flow.stored + words;
        pending = nothing;
      }

  flow-is : flow_of setup size.width flow word_of_a (λ _. flow.sources.b) (λ _. flow.sources.c) size.height ≡ handed_on
  flow-is =
      rw (
        channel-rows n setup.direction size.width size.height setup.modulos.a setup.uses.a flow.pointers.a far.a channel-a known.sized.most known.sized.some known.sized.narrow size.height,
        channel-rows n setup.direction size.width size.height setup.modulos.d setup.uses.d flow.pointers.d far.d channel-d known.sized.most known.sized.some known.sized.narrow size.height,
        pointer-on setup.uses.a far.a size.width flow.pointers.a.word size.height flow.pointers.a smears.alone.a smears.far_a,
        pointer-on setup.uses.d far.d size.width flow.pointers.d.word size.height flow.pointers.d smears.alone.d smears.far_d,
        pointer-stays setup.direction setup.uses.b size.width setup.modulos.b size.height flow.pointers.b smears.alone.b,
        pointer-stays setup.direction setup.uses.c size.width setup.modulos.c size.height flow.pointers.c smears.alone.c,
        last_of flow.sources.a word_of_a words last some_words last_is,
        last_of flow.sources.b (λ _. flow.sources.b) words flow.sources.b some_words (λ k is. refl),
        last_of flow.sources.c (λ _. flow.sources.c) words flow.sources.c some_words (λ k is. refl),
        before-is words (omega arith) ∙ sym does.last_is,
        last_of flow.earlier.b (λ _. flow.sources.b) words flow.sources.b some_words (λ k is. refl),
        last_of flow.carry (λ k. (final k).carry) words setup.carry some_words (λ k is. sym (carry-of-off setup.fill setup.carry size.width k _ smears.alone.off)),
        every-alike (λ k. eqb (final k).word 0) (λ k. eqb (made k) 0) words (λ k below. ap (λ (word : ℕ). eqb word 0) (final-is k below)),
        ← does.nought_is,
        ← if-when-true setup.uses.d words words 0 smears.alone.d refl,
      )

  pub smear-is : (next : Flow) → next ≡ handed_on → state after next ≡ area_blit setup size.width size.height (state memory flow)
  smear-is next is =
      rw (is, ← flow-is, does.memory_is, ← memory_is words (omega arith))
      (sym (found-blit setup size.width size.height memory flow word_of_a (λ _. flow.sources.b) (λ _. flow.sources.c) known.sized.some known.none found))
