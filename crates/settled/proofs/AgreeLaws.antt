-- Two register files that agree on what a settled blit depends on are refused alike, and become the same words.
use Rattle.word.proofs.Base.{◌≡◌, refl, sym, ap, ap₂, ◌∙◌, ℕ, ◌+◌, Bool, true, false, ◌&&◌, List, get_or}
use Rattle.word.specs.declared.types.Direction.{Direction}
use Rattle.word.specs.declared.types.Pointer.{Pointer}
use Rattle.word.specs.Choice.{given}
use Rattle.word.specs.Pointer.{pointer, half}
use Rattle.word.specs.Size.{height, width}
use Rattle.file.specs.Places.{first_mask, last_mask, pointer_d, modulo_d, source_a, source_b, source_c}
use Rattle.word.specs.Types.{Uses}
use Rattle.area.specs.Setup.{shifts, direction, fill, masks, modulos, setup}
use Rattle.file.specs.File.{con0, con1}
use Rattle.word.specs.Control.{uses, function, carry_in, line}
use Rattle.file.specs.Pointers.{pointer_at}
use Rattle.area.specs.Flow.{pointers, sources, start}
use Rattle.refusal.specs.Touch.{touches, leaves, channel_leaves}
use Rattle.refusal.specs.declared.types.AreaPlan.{AreaPlan}
use Rattle.refusal.specs.Plan.{area_plan}
use Rattle.refusal.specs.Refusal.{both_fills, fill_upward, leaving, step_refusal}
use Rattle.refusal.proofs.RefusalLaws.{channel_numbered, area_numbered, step_refusal-of-area, step_refusal-without-a}
use Rattle.round.specs.Round.{goes_round}
use Rattle.round.proofs.AreaLaws.{area_round-by-d}
use Rattle.depends.specs.Depends.{counts}
use Rattle.stores.specs.Stores.{stores, final_d}
use Rattle.stores.proofs.OnlyDLaws.{OnlyD}
use Rattle.settled.specs.Words.{settled_words}
use Rattle.settled.proofs.AlikeLaws.{AlikeSetup, AlikeFlow}
use Rattle.settled.proofs.AlikeRowsLaws.{blit_stores-alike}

pub record Agree (this other : List ℕ) : Type 0 where
  pub control0 : con0 this ≡ con0 other
  pub control1 : con1 this ≡ con1 other
  pub high : get_or this pointer_d 0 ≡ get_or other pointer_d 0
  pub low : get_or this (pointer_d + 1) 0 ≡ get_or other (pointer_d + 1) 0
  pub modulo : get_or this modulo_d 0 ≡ get_or other modulo_d 0
  pub first : counts (function (con0 this)) 4 ≡ true → get_or this first_mask 0 ≡ get_or other first_mask 0
  pub last : counts (function (con0 this)) 4 ≡ true → get_or this last_mask 0 ≡ get_or other last_mask 0
  pub a : counts (function (con0 this)) 4 ≡ true → get_or this source_a 0 ≡ get_or other source_a 0
  pub b : counts (function (con0 this)) 2 ≡ true → get_or this source_b 0 ≡ get_or other source_b 0
  pub c : counts (function (con0 this)) 1 ≡ true → get_or this source_c 0 ≡ get_or other source_c 0

-- four channels of which the last alone is used
last-alone : (a b c d x y z w : Bool) → a ≡ false → b ≡ false → c ≡ false → d ≡ true
    → channel_numbered (a && x) (b && y) (c && z) (d && w) ≡ channel_numbered false false false w
last-alone a b c d x y z w no-a no-b no-c yes-d = rw (no-a, no-b, no-c, yes-d)

leaving-of-only-d : (n : ℕ) (by : AreaPlan) → OnlyD by.setup.uses
    → leaving n by
    ≡ channel_numbered false false false (leaves n (touches by.setup.direction by.width by.setup.modulos.d by.height by.pointers.d))
unfolding leaving given channel_leaves
leaving-of-only-d n by only =
    last-alone by.setup.uses.a by.setup.uses.b by.setup.uses.c by.setup.uses.d _ _ _ _ only.a only.b only.c only.d

touches-alike : (n wide tall : ℕ) (way way' : Direction) (modulo modulo' : ℕ) (at at' : Pointer) → way ≡ way' → modulo ≡ modulo' → at ≡ at'
    → channel_numbered false false false (leaves n (touches way wide modulo tall at))
    ≡ channel_numbered false false false (leaves n (touches way' wide modulo' tall at'))
touches-alike n wide tall way way' modulo modulo' at at' same by from = rw (same, by, from)

module _ (this other : List ℕ) (agree : Agree this other) where
  setup-alike : AlikeSetup (setup this) (setup other)
  unfolding setup masks modulos
  setup-alike =
      record {
        uses = ap uses agree.control0;
        direction = ap direction agree.control1;
        function = ap function agree.control0;
        shifts = ap₂ shifts agree.control0 agree.control1;
        fill = ap fill agree.control1;
        carry = ap carry_in agree.control1;
        modulo = ap half agree.modulo;
        masks = λ counted. ap₂ (λ (first last : ℕ). record { first = first; last = last }) (agree.first counted) (agree.last counted);
      }

  pointer-alike : pointer_at this pointer_d ≡ pointer_at other pointer_d
  unfolding pointer_at
  pointer-alike = ap₂ pointer agree.high agree.low

  pointers-alike : (pointers this).d ≡ (pointers other).d
  unfolding pointers
  pointers-alike = pointer-alike

  start-alike : AlikeFlow (function (con0 this)) (start this) (start other)
  unfolding start pointers sources
  start-alike =
      record {
        d = pointer-alike;
        carry = refl;
        a = agree.a;
        earlier-a = λ counted. refl;
        b = agree.b;
        earlier-b = λ counted. refl;
        c = agree.c;
      }

  pub uses-alike : OnlyD (setup this).uses → OnlyD (setup other).uses
  unfolding setup
  uses-alike only =
      let same : uses (con0 this) ≡ uses (con0 other) = ap uses agree.control0 in
      record {
        a = sym (ap (λ (used : Uses). used.a) same) ∙ only.a;
        b = sym (ap (λ (used : Uses). used.b) same) ∙ only.b;
        c = sym (ap (λ (used : Uses). used.c) same) ∙ only.c;
        d = sym (ap (λ (used : Uses). used.d) same) ∙ only.d;
      }

  leaving-alike : (n size : ℕ) → OnlyD (setup this).uses → leaving n (area_plan this size) ≡ leaving n (area_plan other size)
  leaving-alike n size only =
      leaving-of-only-d n (area_plan this size) only
      ∙ touches-alike n (width size) (height size) (setup this).direction (setup other).direction (setup this).modulos.d (setup other).modulos.d (pointers this).d (pointers other).d
      setup-alike.direction setup-alike.modulo pointers-alike
      ∙ sym (leaving-of-only-d n (area_plan other size) (uses-alike only))

  -- a line is refused for its form, an area blit as its fills and channels say
  pub step_refusal-alike : (n size : ℕ) → OnlyD (setup this).uses → step_refusal n this size ≡ step_refusal n other size
  unfolding setup
  step_refusal-alike n size only = by_bit (line (con1 this)) refl
    where
      by_bit : (bit : Bool) → line (con1 this) ≡ bit → step_refusal n this size ≡ step_refusal n other size
      by_bit true lined =
          step_refusal-without-a n this size lined only.a
          ∙ sym (step_refusal-without-a n other size (sym (ap line agree.control1) ∙ lined) (uses-alike only).a)
      by_bit false area =
          step_refusal-of-area n this size area
          ∙ ap₂ (λ (control channel : ℕ). area_numbered (both_fills control) (fill_upward control) channel) agree.control1 (leaving-alike n size only)
          ∙ sym (step_refusal-of-area n other size (sym (ap line agree.control1) ∙ area))

  -- an area blit goes round as D does
  pub goes_round-alike : (size : ℕ) → OnlyD (setup this).uses → line (con1 this) ≡ false → goes_round this size ≡ goes_round other size
  unfolding goes_round
  goes_round-alike size only area =
      rw (area, sym (ap line agree.control1) ∙ area)
      (area_round-by-d (area_plan this size) (area_plan other size) only.a only.b only.c setup-alike.uses
      setup-alike.direction refl refl setup-alike.modulo pointers-alike)

  pub final_d-alike : (size : ℕ) → final_d this size ≡ final_d other size
  unfolding final_d
  final_d-alike size = rw (setup-alike.direction, setup-alike.modulo, pointers-alike)

  stores-alike : (size : ℕ) → OnlyD (setup this).uses → stores this size ≡ stores other size
  unfolding stores setup
  stores-alike size only =
      blit_stores-alike (setup this) (setup other) setup-alike only (uses-alike only) (width size) (height size) (start this) (start other) start-alike

  pub settled_words-alike : (size : ℕ) → OnlyD (setup this).uses → settled_words this size ≡ settled_words other size
  unfolding settled_words
  settled_words-alike size only = rw (stores-alike size only, final_d-alike size)
