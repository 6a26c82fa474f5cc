-- Block by block: after a block what is left is placed and apart as it was, and leads to the same end.
use Rattle.word.proofs.Base.{◌≡◌, refl, sym, ap, ◌∙◌, ℕ, zero, suc, ◌+◌, ◌-◌, ◌*◌, ◌/◌, ◌%◌, ◌<◌, ◌≤◌, add-mul}
use Rattle.word.proofs.Base.{mul-le-mul, mul-le-mul_right, arith, Bool, true, false, List, length, rules}
use native.Mathlib.Nat.{mul-add-div_right, mul-add-mod_self_right}
use Rattle.word.proofs.ChoiceLaws.{if-either}
use Rattle.word.specs.Repeat.{repeated}
use Rattle.word.specs.Pointer.{moved, next_row}
use Rattle.area.specs.Flow.{State, state}
use Rattle.area.specs.Rows.{area_blit}
use Rattle.area.proofs.RowsLaws.{area_blit-keeps-length}
use Rattle.area.proofs.EarlyLaws.{store_pending-of-nothing}
use Rattle.quiet.specs.Stream.{standing, standing_at}
use Rattle.quiet.specs.Quiet.{flow_after}
use Rattle.quiet.proofs.StreamLaws.{row_of, word_of}
use Rattle.quiet.proofs.QuietLaws.{quiet-blit}
use Rattle.quiet.proofs.CutLaws.{repeated-sum, Seam, quiet-cut}
use Rattle.apart.specs.Inner.Apart.{Apart, AllApart}
use Rattle.apart.proofs.PlacedLaws.{channel-on}
use Rattle.blocks.specs.Inner.Block.{Direction, Pointer, Setup, Flow, Strides, Channel, Placed, Fits}
use Rattle.blocks.proofs.BlockLaws.{fits-quiet}

-- word k from so many rows on
standing_at-on : (direction : Direction) (used : Bool) (width modulo first k : ℕ) (pointer : Pointer) → 1 ≤ width
    → standing_at direction used width modulo (standing direction used width modulo first 0 pointer) k ≡ standing_at direction used width modulo pointer (first * width + k)
unfolding standing repeated
standing_at-on direction true width modulo first k pointer some =
    ap (repeated (λ _. moved direction) (k % width)) (sym (repeated-sum (next_row direction width modulo) first (k / width) pointer))
    ∙ rw (mul-add-div_right {m = width} some first k, mul-add-mod_self_right first width k)
standing_at-on direction false width modulo first k pointer some = refl

-- what the loop over blocks keeps of the rows that are left
pub record Running (n : ℕ) (setup : Setup) (width : ℕ) (far : Strides) (most left : ℕ) (now end : State) : Type 0 where
  pub long : length now.memory ≡ n
  pub placed : Placed n setup width left now.flow far
  pub apart : AllApart setup width (most * width) (left * width) now.flow
  pub room : now.flow.stored + left * 64 < 4294967232
  pub goes : area_blit setup width left now ≡ end

pub running-starts : {setup : Setup} {width height most : ℕ} {far : Strides} {memory : List ℕ} {flow : Flow} → Placed (length memory) setup width height flow far
    → AllApart setup width (most * width) (height * width) flow → flow.stored + height * 64 < 4294967232
    → Running (length memory) setup width far most (height - 0) (state memory flow) (area_blit setup width height (state memory flow))
running-starts {height = height} placed apart room =
    let all : height - 0 ≡ height = omega arith in
    rw all (record { long = refl; placed = placed; apart = apart; room = room; goes = refl })

module _ {n : ℕ} {setup : Setup} {width : ℕ} {far : Strides} {most left : ℕ} {ram : List ℕ} {here : Flow} {end : State} (running : Running n setup width far most left (state ram here) end)
    {rows : ℕ} (some : 1 ≤ rows) (fits : rows ≤ left) (few : rows ≤ most) where
  -- the next block
  pub block-fits : most * width ≤ 64 → Fits (length ram) setup (record { width = width; height = rows }) here far
  block-fits room =
      let all : rows * width ≤ most * width = mul-le-mul_right width few in
      let least : rows * 1 ≤ most * width = mul-le-mul few running.placed.some in
      rw running.long
      (record {
        some = omega (arith, mul-le-mul some running.placed.some);
        room = omega arith;
        few = omega arith;
        left = left;
        enough = fits;
        placed = running.placed;
        span = most * width;
        within = all;
        apart = running.apart;
      })

  -- and those after it
  placed_on : Placed n setup width (left - rows) (flow_after setup width ram here rows) far
  placed_on = search (rules, on)
    where
      on : {modulo : ℕ} {used : Bool} {pointer : Pointer} {gap : ℕ} → Channel n setup.direction width left modulo used pointer gap
          → Channel n setup.direction width (left - rows) modulo used (standing setup.direction used width modulo rows 0 pointer) gap
      on channel = let placed = running.placed in channel-on _ _ _ _ _ _ _ _ channel placed.most placed.some placed.narrow rows (left - rows) (omega arith)

  apart-on : AllApart setup width (most * width) ((left - rows) * width) (flow_after setup width ram here rows)
  unfolding Apart
  apart-on =
      let wide : 1 ≤ width = running.placed.some in
      let all : rows * width + (left - rows) * width ≡ left * width = sym (add-mul rows (left - rows) width) ∙ ap (λ (rows : ℕ). rows * width) (omega arith) in
      record {
        a = λ i j below early near stores uses same. running.apart.a (rows * width + i) (rows * width + j) (omega arith) (omega arith) (omega arith) stores uses (simp standing_at-on at same);
        b = λ i j below early near stores uses same. running.apart.b (rows * width + i) (rows * width + j) (omega arith) (omega arith) (omega arith) stores uses (simp standing_at-on at same);
        c = λ i j below early near stores uses same. running.apart.c (rows * width + i) (rows * width + j) (omega arith) (omega arith) (omega arith) stores uses (simp standing_at-on at same);
      }

  -- between two blocks
  seam : 2 ≤ most * width → 1 ≤ left - rows → Seam setup width rows here
  unfolding Seam Apart
  seam two more stores =
      let wide : 1 ≤ width = running.placed.some in
      let words : 1 ≤ rows * width = omega (arith, mul-le-mul some wide) in
      let up : (rows + 1) * width ≤ left * width = mul-le-mul_right width (omega arith) in
      let next : rows * width < left * width = omega (arith, add-mul rows 1 width, up) in
      let row : rows * width / width ≡ rows = row_of width rows 0 (rows * width) wide (omega arith) in
      let word : rows * width % width ≡ 0 = word_of width rows 0 (rows * width) wide (omega arith) in (
        λ uses same. running.apart.a (rows * width) (rows * width - 1) next (omega arith) (omega arith) stores uses (rw (row, word) same),
        λ uses same. running.apart.b (rows * width) (rows * width - 1) next (omega arith) (omega arith) stores uses (rw (row, word) same),
        λ uses same. running.apart.c (rows * width) (rows * width - 1) next (omega arith) (omega arith) stores uses (rw (row, word) same),
      )

  -- a block more
  pub running-on : {after : List ℕ} {next : Flow} {rest : ℕ} → most * width ≤ 64 → 2 ≤ most * width → state after next ≡ area_blit setup width rows (state ram here)
      → rest ≡ left - rows → Running n setup width far most rest (state after next) end
  running-on small two does less =
      let wide : 1 ≤ width = running.placed.some in
      let quiet = fits-quiet (block-fits small) in
      let is = quiet-blit setup width rows ram here wide running.placed.none quiet in
      rw (does ∙ is, less)
      (record {
        long = ap (λ (end : State). length end.memory) (sym is) ∙ area_blit-keeps-length setup width rows (state ram here) ∙ running.long;
        placed = placed_on;
        apart = apart-on;
        room = if-either (λ (more : ℕ). here.stored + more + (left - rows) * 64 < 4294967232) setup.uses.d (rows * width) 0 (omega (arith, running.room, mul-le-mul_right width few)) (omega (arith, running.room));
        goes =
            ap (area_blit setup width (left - rows)) (sym is)
            ∙ quiet-cut setup width rows (left - rows) ram here wide (omega (arith, mul-le-mul some wide)) running.placed.none quiet (seam two)
            ∙ ap (λ (all : ℕ). area_blit setup width all (state ram here)) (omega arith)
            ∙ running.goes;
      })

pub running-done : {n : ℕ} {setup : Setup} {width : ℕ} {far : Strides} {most left : ℕ} {ram : List ℕ} {here : Flow} {end : State} → left ≡ 0
    → Running n setup width far most left (state ram here) end → state ram here ≡ end
unfolding area_blit repeated
running-done {left = zero} done running = sym (store_pending-of-nothing _ _ running.placed.none) ∙ running.goes
running-done {left = suc left} done running = absurd (omega arith)
