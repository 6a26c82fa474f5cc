-- Rows that lie in memory, counted plainly, are the rows that the pointer's own moves lead to, and none of these goes round.
use Rattle.std.specs.Prelude.{if◌then◌else◌}
use Rattle.word.proofs.Base.{◌≡◌, refl, sym, ap, ap₂, ◌∙◌, ℕ, zero, suc, ◌+◌, ◌-◌, ◌*◌, ◌%◌, ◌<◌, ◌≤◌, mod-lt, arith, Bool, true, false, ◌||◌}
use Rattle.word.proofs.Base.{leb, ltb, lt-leb, le-ltb, List}
use Rattle.word.specs.declared.types.Direction.{Direction}
use Rattle.word.specs.declared.types.Direction.TheVariants.{Ascending, Descending}
use Rattle.word.specs.declared.types.Pointer.{Pointer}
use Rattle.word.specs.Pointer.{pointer_end, downward, passed, next_row}
use Rattle.word.specs.Round.{plus_round, minus_round, passed_round}
use Rattle.word.specs.Control.{line}
use Rattle.word.proofs.PointerLaws.{next_row-lt, next_row-of-moves}
use Rattle.file.specs.File.{con1}
use Rattle.line.specs.Dot.{first_dot}
use Rattle.line.specs.Inner.Walk.{dot_of, mark_of}
use Rattle.refusal.specs.declared.types.AreaPlan.{AreaPlan}
use Rattle.refusal.specs.declared.types.LinePlan.{LinePlan}
use Rattle.refusal.specs.Plan.{area_plan, line_plan}
use Rattle.round.specs.Between.{went_round}
use Rattle.round.specs.Channel.{channel_moves, channel_round, area_round}
use Rattle.round.specs.Line.{line_moves, line_round}
use Rattle.round.specs.Round.{goes_round}
use Rattle.refusal.specs.Inner.Ranges.{ChannelRange}
use Rattle.refusal.specs.Inner.AreaRange.{AreaRange}
use Rattle.round.specs.Inner.Ranges.{LineRange}
use Rattle.round.specs.Inner.Reach.{rise, reach}
use Rattle.round.specs.Plain.{words_on, words_back, Lies, LiesWithNext, Follows, PlainRows, PlainArea, farthest_dot}
use Rattle.round.proofs.ChannelLaws.{end_round, went_round-of-last, went_round-of-rows}
use Rattle.round.proofs.AreaLaws.{area_round-of-none}
use Rattle.round.proofs.FewLaws.{passed_round-is-far}
use Rattle.refusal.proofs.RefusalLaws.{area-in-range}
use Rattle.round.proofs.RangeLaws.{line-in-range}
use Rattle.round.proofs.LineLaws.{line_moves-of-mark}
use Rattle.round.proofs.ReachLaws.{line_stays}

-- a row's steps
steps-stay : (direction : Direction) (width : ℕ) (pointer : Pointer) → width < downward → LiesWithNext direction width pointer.word
    → passed_round direction width pointer ≡ false
steps-stay Ascending width pointer few lies = passed_round-is-far Ascending width pointer few ∙ lt-leb pointer_end (pointer.word + width) lies
steps-stay Descending width pointer few lies = passed_round-is-far Descending width pointer few ∙ le-ltb pointer.word width lies

-- the last row's: one fewer
last-stays : (direction : Direction) (width : ℕ) (pointer : Pointer) → 1 ≤ width → width ≤ 64 → Lies direction width pointer.word
    → passed_round direction (width - 1) pointer ≡ false
last-stays Ascending width pointer some narrow lies =
    passed_round-is-far Ascending (width - 1) pointer (omega arith) ∙ lt-leb pointer_end (pointer.word + (width - 1)) (omega arith)
last-stays Descending width pointer some narrow lies =
    passed_round-is-far Descending (width - 1) pointer (omega arith) ∙ le-ltb pointer.word (width - 1) (omega arith)

there_and_back : (next gap : ℕ) → next < pointer_end → gap < pointer_end → (next + gap + (pointer_end - gap)) % pointer_end ≡ next
there_and_back next gap inside short = omega arith

-- the modulo's move, by what the modulo stands for: it doesn't go round, and leads to where the next row starts
module _ (width : ℕ) (pointer : Pointer) (next gap : ℕ) (some : 1 ≤ width) (narrow : width ≤ 64) (small : pointer.word < pointer_end)
    (short : gap < pointer_end) (inside : next < pointer_end) where
  gap-upward : (below : Bool) → pointer.word + width < pointer_end
      → next + (if below then pointer_end - gap else 0) ≡ pointer.word + width + (if below then 0 else gap)
      → ((if below then ltb ((pointer.word + width % pointer_end) % pointer_end) (pointer_end - gap) else leb pointer_end ((pointer.word + width % pointer_end) % pointer_end + gap)) ≡ false)
      × (((pointer.word + width % pointer_end) % pointer_end + gap) % pointer_end ≡ next)
  gap-upward true lies follows =
      let end : (pointer.word + width % pointer_end) % pointer_end ≡ pointer.word + width = omega arith in
      rw end (le-ltb (pointer.word + width) (pointer_end - gap) (omega arith), omega arith)
  gap-upward false lies follows =
      let end : (pointer.word + width % pointer_end) % pointer_end ≡ pointer.word + width = omega arith in
      rw end (lt-leb pointer_end (pointer.word + width + gap) (omega arith), omega arith)

  gap-downward : (below : Bool) → width ≤ pointer.word
      → next + width + (if below then 0 else gap) ≡ pointer.word + (if below then pointer_end - gap else 0)
      → ((if below then leb pointer_end ((pointer.word + (pointer_end - width % pointer_end)) % pointer_end + (pointer_end - gap)) else ltb ((pointer.word + (pointer_end - width % pointer_end)) % pointer_end) gap) ≡ false)
      × (((pointer.word + (pointer_end - width % pointer_end)) % pointer_end + (pointer_end - gap)) % pointer_end ≡ next)
  gap-downward true lies follows =
      let end : (pointer.word + (pointer_end - width % pointer_end)) % pointer_end ≡ pointer.word - width = omega arith in
      rw end (lt-leb pointer_end (pointer.word - width + (pointer_end - gap)) (omega arith), omega arith)
  gap-downward false lies follows =
      let end : (pointer.word + (pointer_end - width % pointer_end)) % pointer_end ≡ pointer.word - width = omega arith in
      let back : pointer.word - width ≡ next + gap = omega arith in
      rw (end, back) (le-ltb (next + gap) gap (omega arith), there_and_back next gap inside short)

gap-stays : (direction : Direction) (width modulo : ℕ) (pointer : Pointer) (next : ℕ) → 1 ≤ width → width ≤ 64 → pointer.word < pointer_end → next < pointer_end
    → LiesWithNext direction width pointer.word → Follows direction width modulo pointer.word next
    → (passed_round direction modulo (passed direction width pointer) ≡ false) × ((passed direction modulo (passed direction width pointer)).word ≡ next)
unfolding passed_round passed plus_round minus_round
gap-stays Ascending width modulo pointer next some narrow small inside lies follows =
    gap-upward width pointer next (modulo % pointer_end) some narrow small (mod-lt modulo (omega arith)) inside (leb downward (modulo % pointer_end)) lies follows
gap-stays Descending width modulo pointer next some narrow small inside lies follows =
    gap-downward width pointer next (modulo % pointer_end) some narrow small (mod-lt modulo (omega arith)) inside (leb downward (modulo % pointer_end)) lies follows

Lies-lt : (direction : Direction) (width start : ℕ) → 1 ≤ width → Lies direction width start → start < pointer_end
Lies-lt Ascending width start some lies = omega arith
Lies-lt Descending width start some lies = lies.0

-- row by row
module _ (direction : Direction) (width modulo : ℕ) (some : 1 ≤ width) (narrow : width ≤ 64) where
  rows_stay : (more : ℕ) (pointer : Pointer) → pointer.word < pointer_end → PlainRows direction width modulo (suc more) pointer
      → went_round (channel_moves direction width modulo (suc more) pointer) ≡ false
  unfolding end_round
  rows_stay zero pointer small plain =
      went_round-of-last direction width modulo some narrow pointer small
      ∙ last-stays direction width pointer some narrow (rw plain.first at (plain.lies 0 (omega arith)))
  rows_stay (suc more) pointer small plain =
      let start : LiesWithNext direction width pointer.word = rw plain.first at (plain.behind 0 (omega arith)) in
      let inside : plain.starts 1 < pointer_end = Lies-lt direction width (plain.starts 1) some (plain.lies 1 (omega arith)) in
      let gap = gap-stays direction width modulo pointer (plain.starts 1) some narrow small inside start (rw plain.first at (plain.follows 0 (omega arith))) in
      let end : Pointer = passed direction width pointer in
      let next = next_row-of-moves direction width modulo pointer end (passed direction modulo end) small narrow refl refl in
      went_round-of-rows direction width modulo some narrow more pointer small
      ∙ ap₂ ◌||◌ (ap₂ ◌||◌ (steps-stay direction width pointer (omega arith) start) gap.0)
      (rows_stay more (next_row direction width modulo pointer) (next_row-lt direction width modulo pointer)
      (record {
        starts = λ k. plain.starts (k + 1);
        first = sym gap.1 ∙ ap (λ (to : Pointer). to.word) next.0;
        follows = λ k below. plain.follows (k + 1) (omega arith);
        lies = λ k below. plain.lies (k + 1) (omega arith);
        behind = λ k below. plain.behind (k + 1) (omega arith);
      }))

-- a channel, and the four of them
channel-stays : (direction : Direction) (used : Bool) (width modulo rows : ℕ) (pointer : Pointer) → ChannelRange width rows pointer
    → (used ≡ true → PlainRows direction width modulo rows pointer) → channel_round direction used width modulo rows pointer ≡ false
unfolding channel_round
channel-stays direction false width modulo rows pointer range plain = refl
channel-stays direction true width modulo zero pointer range plain = absurd (omega (arith, range.row))
channel-stays direction true width modulo (suc more) pointer range plain =
    rows_stay direction width modulo range.word range.narrow more pointer range.start (plain refl)

area-stays : (by : AreaPlan) → AreaRange by → PlainArea by → area_round by ≡ false
area-stays by range plain =
    area_round-of-none by
    (channel-stays by.setup.direction by.setup.uses.a by.width by.setup.modulos.a by.height by.pointers.a range.a plain.a)
    (channel-stays by.setup.direction by.setup.uses.b by.width by.setup.modulos.b by.height by.pointers.b range.b plain.b)
    (channel-stays by.setup.direction by.setup.uses.c by.width by.setup.modulos.c by.height by.pointers.c range.c plain.c)
    (channel-stays by.setup.direction by.setup.uses.d by.width by.setup.modulos.d by.height by.pointers.d range.d plain.d)

-- a line: a pixel of its first word, and how far its dots may come in words and in pixels
rise-of-words : (row : ℕ) → rise row ≡ 16 * (words_on row + words_back row)
unfolding rise
rise-of-words row = by_sign (leb downward (row % pointer_end))
  where
    by_sign : (below : Bool)
        → 16 * (if below then pointer_end - row % pointer_end else row % pointer_end)
        ≡ 16 * ((if below then 0 else row % pointer_end) + (if below then pointer_end - row % pointer_end else 0))
    by_sign true = omega arith
    by_sign false = omega arith

pixels-le : (more words : ℕ) → more * (16 * words + 1) + 16 ≤ 16 * (suc more * (words + 1))
pixels-le zero words = omega arith
pixels-le (suc more) words = let rest = pixels-le more words in omega arith

line-of-dots : (by : LinePlan) → LineRange by.dots by.first
    → by.dots * (words_on by.line.row + words_back by.line.row + 1) ≤ by.first.spot.at.word
    → by.first.spot.at.word + by.dots * (words_on by.line.row + words_back by.line.row + 1) < pointer_end
    → line_round by ≡ false
unfolding line_round
line-of-dots by range low high = sym (line_moves-of-mark by.line by.dots by.first (mark_of by.first) false range.start range.shift range.bit refl (by_count by.dots range.some low high))
  where
    words : ℕ
    words = words_on by.line.row + words_back by.line.row

    by_count : (many : ℕ) → 1 ≤ many → many * (words_on by.line.row + words_back by.line.row + 1) ≤ by.first.spot.at.word
        → by.first.spot.at.word + many * (words_on by.line.row + words_back by.line.row + 1) < pointer_end
        → false ≡ went_round (line_moves by.line many (dot_of (mark_of by.first)))
    by_count zero none low high = absurd (omega arith)
    by_count (suc more) one low high =
        let rises = rise-of-words by.line.row in
        let far : more * reach by.line.row + 16 ≤ 16 * (suc more * (words_on by.line.row + words_back by.line.row + 1)) =
        rw rises (pixels-le more (words_on by.line.row + words_back by.line.row)) in
        let small = range.start in
        sym (line_stays by.line more (mark_of by.first) (omega (arith, far)) (omega (arith, far)))

-- so neither goes round
pub goes_round-when-plain : (file : List ℕ) (size : ℕ) → line (con1 file) ≡ false → PlainArea (area_plan file size) → goes_round file size ≡ false
unfolding goes_round
goes_round-when-plain file size area plain =
    rw area (area-stays (area_plan file size) (area-in-range file size (area_plan file size) refl) plain)

pub goes_round-when-far : (file : List ℕ) (size : ℕ) → line (con1 file) ≡ true → farthest_dot file size ≤ (first_dot file).spot.at.word
    → (first_dot file).spot.at.word + farthest_dot file size < pointer_end → goes_round file size ≡ false
unfolding goes_round
goes_round-when-far file size lined low high =
    rw lined (line-of-dots (line_plan file size) (line-in-range file size (line_plan file size) refl) low high)
