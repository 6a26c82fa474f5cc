-- The test before a blit tells what its blocks must be told.
use Rattle.word.proofs.Base.{◌≡◌, sym, ◌∙◌, ℕ, ◌*◌, ◌/◌, ◌<◌, ◌≤◌, mul-le-mul_right, arith, Bool, true, rules}
use native.Mathlib.Nat.{le_trans, div-mul-le_self}
use Rattle.quiet.specs.Stream.{standing_at, at_d}
use Rattle.apart.specs.Inner.Placed.{Pointer, Setup, Flow, Strides, pointer_end, Channel, Placed}
use Rattle.apart.specs.Inner.Apart.{Apart, AllApart}
use Rattle.apart.specs.Inner.Spans.{Size, Span, course, Spans, Told, Stride, Known}
use Rattle.apart.proofs.PlacedLaws.{channel-place}
use Rattle.apart.proofs.SpanLaws.{spans-inside}

module _ {n : ℕ} {setup : Setup} {size : Size} {flow : Flow} {far : Strides} (known : Known n setup size flow far) {d : Span}
    (to-d : setup.uses.d ≡ true → Spans n setup.direction size (course flow.pointers.d far.d) d) where
  d-placed : Channel n setup.direction size.width size.height setup.modulos.d setup.uses.d flow.pointers.d far.d
  d-placed = record { stride = known.even.d.0; small = known.d; inside = λ stores. spans-inside (to-d stores) }

  -- a source is placed, and apart from D by as many rows as it was told, or fewer
  source-apart : {rows few modulo gap : ℕ} {used : Bool} {pointer : Pointer} → 1 ≤ few → few ≤ rows
      → (1 ≤ rows → used ≡ true → Told n setup size d (course flow.pointers.d far.d) (course pointer gap) rows)
      → Stride setup.direction size.width modulo gap → pointer.word < pointer_end
      → Channel n setup.direction size.width size.height modulo used pointer gap
      × Apart setup.uses.d used (at_d setup size.width flow) (standing_at setup.direction used size.width modulo pointer) (few * size.width) (size.height * size.width)
  unfolding Apart
  source-apart {rows} {few} {modulo} {gap} {used} {pointer} some least told stride small =
      let placed : Channel n setup.direction size.width size.height modulo used pointer gap =
      record { stride = stride.0; small = small; inside = λ uses. (told (omega arith) uses).inside } in
      let less : few * size.width ≤ rows * size.width = mul-le-mul_right size.width least in (
        placed,
        λ i j below early near stores uses same.
            ((told (omega arith) uses).clear stores (to-d stores)).never i j below early (omega arith)
            (sym (channel-place _ _ _ _ _ _ _ _ d-placed known.sized.most known.sized.some known.sized.narrow stores j (omega arith))
            ∙ same
            ∙ channel-place _ _ _ _ _ _ _ _ placed known.sized.most known.sized.some known.sized.narrow uses i below),
      )

  -- all four tests held
  pub all_apart : {a b c : ℕ}
      → (1 ≤ a → setup.uses.a ≡ true → Told n setup size d (course flow.pointers.d far.d) (course flow.pointers.a far.a) a)
      → (1 ≤ b → setup.uses.b ≡ true → Told n setup size d (course flow.pointers.d far.d) (course flow.pointers.b far.b) b)
      → (1 ≤ c → setup.uses.c ≡ true → Told n setup size d (course flow.pointers.d far.d) (course flow.pointers.c far.c) c)
      → b ≤ a → c ≤ b → 1 ≤ c
      → Placed n setup size.width size.height flow far × AllApart setup size.width (c * size.width) (size.height * size.width) flow
  all_apart to-a to-b to-c first second some =
      let a = source-apart some (omega arith) to-a known.even.a known.a in
      let b = source-apart some second to-b known.even.b known.b in
      let c = source-apart some (omega arith) to-c known.even.c known.c in
      let d = d-placed in
      (search rules, search rules)

pub rows-room : (rows width : ℕ) → rows ≤ 64 / width → rows * width ≤ 64
rows-room rows width few = le_trans (mul-le-mul_right width few) (div-mul-le_self 64 width)
